-- Events with the bytes that their ranges had before a run, and runs seen from their steps. Private contracts and
-- proofs alone name these.
use Rattle.std.specs.Prelude.{◌≡◌, ◌≢◌, ℕ, ◌<◌, List, Some}
use Rattle.dm_space.specs.Memory.{Memory}
use Rattle.dm_services.specs.declared.state.stop.Stop.{Stop}
use Rattle.dm_services.specs.declared.state.stop.Stop.TheVariants.{Steps as AllSteps}
use Rattle.dm_services.specs.state.State.{State}
use Rattle.dm_machine.specs.Run.{IsRun}
use Rattle.dm_debug.specs.declared.stops.events.Event.{Event}
use Rattle.dm_debug.specs.declared.stops.events.Event.TheVariants.{Change}
use Rattle.dm_debug.specs.declared.stops.going.RunEnd.{RunEnd}
use Rattle.dm_debug.specs.declared.stops.going.RunEnd.TheVariants.{Came, Stopped}
use Rattle.dm_debug.specs.stops.Events.{bytes_for, bytes_there, first_come}
use Rattle.dm_debug.specs.stops.Runs.{RunsPast}

-- an event, and the bytes of its range before the run
pub record Watched : Type 0 where
  pub event : Event
  pub before : List ℕ

-- how many bytes are kept for an event
abbrev pub count_for : Event → ℕ
count_for (Change r) = bytes_there r
count_for _ = 0

-- the event with the bytes that its range has in this memory
abbrev pub watch_of : Memory → Event → Watched
watch_of m e = record { event = e; before = bytes_for m e }

-- a run up to events, of one step or more and with one event or more, that began with this memory
pub data GoesTo (start : Memory) (s : State) (most : ℕ) (events : List Event) (ending : RunEnd)
    (t : State) : Type 0 where
  came : (made index : ℕ) (before : State) → made < most → ending ≡ Came index → RunsPast start events s made before →
      IsRun before 1 AllSteps t
      → first_come start events t ≡ Some index → GoesTo start s most events ending t
  whole : ending ≡ Stopped AllSteps → RunsPast start events s most t → GoesTo start s most events ending t
  cut : (made : ℕ) (before : State) (why : Stop) → made < most → ending ≡ Stopped why → why ≢ AllSteps →
      RunsPast start events s made before → IsRun before 1 why t
      → GoesTo start s most events ending t
