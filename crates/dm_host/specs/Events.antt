-- Runs of a host's machine up to events.
use Rattle.std.specs.Prelude.{◌≡◌, ℕ, List}
use Rattle.dm_debug.specs.declared.stops.events.Event.{Event}
use Rattle.dm_debug.specs.declared.stops.going.RunEnd.{RunEnd}
use Rattle.dm_debug.specs.stops.Runs.{RunsTo}
use Rattle.dm_debug.specs.Debugged.{Debugged}
use Rattle.dm_host.specs.declared.refusal.Refusal.{Refusal}
use Rattle.dm_host.specs.declared.refusal.Refusal.TheVariants.{Memory}
use Rattle.dm_host.specs.declared.host.Stage.TheVariants.{Loaded}
use Rattle.dm_host.specs.Hosts.{Hosted, IsNotLoaded}

-- a run of at most n steps up to an event leads from session s to t, and ends for this reason; the breakpoints stay
abbrev pub RunsSession : Debugged → ℕ → List Event → RunEnd → Debugged → Type 0
RunsSession s n events ending t = RunsTo s.machine n events ending t.machine × (t.points ≡ s.points)

-- why no run up to events is made, in this order: no program is loaded; an allocation failed
pub data IsNotRun (h : Hosted) (why : Refusal) : Type 0 where
  not_loaded : IsNotLoaded h why → IsNotRun h why
  no_memory : (s : Debugged) → h.stage ≡ Loaded s → why ≡ Memory → IsNotRun h why
