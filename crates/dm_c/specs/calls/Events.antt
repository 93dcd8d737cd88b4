-- Events that end a run, as C passes them, and how such a run has ended.
use Rattle.std.specs.Prelude.{◌≡◌, ◌⊎◌, ℕ, ◌==◌, nat_le, true, false, Bool, if◌then◌else◌, List, map, Some}
use Rattle.std.specs.List.{list_all}
use Rattle.dm_debug.specs.declared.stops.events.Event.{Event}
use Rattle.dm_debug.specs.declared.stops.events.Event.TheVariants.{At, Address, Change, Call, Function}
use Rattle.dm_debug.specs.declared.stops.going.RunEnd.{RunEnd}
use Rattle.dm_debug.specs.declared.stops.going.RunEnd.TheVariants.{Came}
use Rattle.dm_debug.specs.declared.stops.going.RunEnd.TheVariants as ending
use Rattle.dm_host.specs.declared.refusal.Refusal.{Refusal}
use Rattle.dm_host.specs.declared.refusal.Refusal.TheVariants.{Memory as NoMemory}
use Rattle.dm_host.specs.Hosts.{Hosted, Works}
use Rattle.dm_host.specs.Events.{RunsSession, IsNotRun}
use Rattle.dm_c.specs.declared.calls.values.Stopped.{Stopped}
use Rattle.dm_c.specs.declared.calls.events.Awaited.{Awaited}
use Rattle.dm_c.specs.calls.Statuses.{status_of, stopped_of}

-- whether the kind of an event is one
abbrev pub is_known : Awaited → Bool
is_known e = nat_le e.kind 4

-- the event that C passes, by its kind: an exact pair (0), a linear address (1), a change of the bytes from a linear
-- address up (2), the call of an interrupt (3), and that call with a number in AH
abbrev pub event_of : Awaited → Event
event_of e =
    if e.kind == 0 then At (record { segment = e.segment; offset = e.offset }) else
    if e.kind == 1 then Address e.address else
    if e.kind == 2 then Change (record { address = e.address; length = e.length }) else
    if e.kind == 3 then Call e.number else Function e.number e.ah

-- how a run up to events has ended, as C sees it: 8 for an event, else the stop
abbrev pub ended_of : RunEnd → Stopped
ended_of (ending.Stopped stop) = stopped_of (Some stop)
ended_of (Came place) = record { why = 8; code = 0 }

-- the index in the list of the event that came; `before` if none did
abbrev pub event_index : RunEnd → ℕ → ℕ
event_index (ending.Stopped stop) before = before
event_index (Came place) before = place

-- `dm_c_run_to`: a run of at most n steps up to an event, why it stopped, and which event came. Where the kind of an
-- event is none (status 23), an allocation failed or no program is loaded, nothing changes
pub data EventsTo (h : Hosted) (n : ℕ) (events : List Awaited) (before after : Stopped) (place_before place : ℕ)
    (status : ℕ) (g : Hosted) : Type 0 where
  bad_event : list_all is_known events ≡ false → status ≡ 23 → g ≡ h → after ≡ before → place ≡ place_before →
      EventsTo h n events before after place_before place status g
  done : (how : RunEnd) → list_all is_known events ≡ true → status ≡ 0 →
      Works h (λ s t. RunsSession s n (map event_of events) how t) g → after ≡ ended_of how →
      place ≡ event_index how place_before
      → EventsTo h n events before after place_before place status g
  refused : (why : Refusal) → list_all is_known events ≡ true → status ≡ status_of why → IsNotRun h why ⊎
      (why ≡ NoMemory) → g ≡ h → after ≡ before → place ≡ place_before
      → EventsTo h n events before after place_before place status g
