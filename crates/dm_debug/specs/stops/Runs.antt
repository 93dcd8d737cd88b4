-- Runs up to an event.
use Rattle.std.specs.Prelude.{◌≡◌, ◌≢◌, ◌⊎◌, ℕ, ◌+◌, ◌<◌, List, [], Some, None}
use Rattle.dm_space.specs.Memory.{Memory}
use Rattle.dm_services.specs.declared.state.stop.Stop.{Stop}
use Rattle.dm_services.specs.declared.state.stop.Stop.TheVariants.{Steps as AllSteps}
use Rattle.dm_services.specs.state.State.{State}
use Rattle.dm_machine.specs.Run.{IsRun}
use Rattle.dm_debug.specs.declared.stops.events.Event.{Event}
use Rattle.dm_debug.specs.declared.stops.going.RunEnd.{RunEnd}
use Rattle.dm_debug.specs.declared.stops.going.RunEnd.TheVariants.{Came, Stopped}
use Rattle.dm_debug.specs.stops.Events.{first_come}

-- n steps, one after the other, lead from s to this state, and none of them led to an event; the run began with this
-- memory
pub data RunsPast (start : Memory) (events : List Event) (s : State) : ℕ → State → Type 0 where
  here : RunsPast start events s 0 s
  further : (n : ℕ) (t u : State) → RunsPast start events s n t → IsRun t 1 AllSteps u →
      first_come start events u ≡ None → RunsPast start events s (n + 1) u

-- At most `most` steps from s, but none after the first that led to an event, end for this reason in t. Such a step was
-- made, and this is the first event in the list that came (`came`); all were made (`whole`); or a stop came earlier
-- (`cut`). Where there is no event or no step, it is a run (`plain`)
pub data RunsTo (s : State) (most : ℕ) (events : List Event) (ending : RunEnd) (t : State) : Type 0 where
  plain : (why : Stop) → (most ≡ 0) ⊎ (events ≡ []) → ending ≡ Stopped why → IsRun s most why t →
      RunsTo s most events ending t
  came : (made index : ℕ) (before : State) → made < most → ending ≡ Came index → RunsPast s.memory events s made before →
      IsRun before 1 AllSteps t
      → first_come s.memory events t ≡ Some index → RunsTo s most events ending t
  whole : ending ≡ Stopped AllSteps → RunsPast s.memory events s most t → RunsTo s most events ending t
  cut : (made : ℕ) (before : State) (why : Stop) → made < most → ending ≡ Stopped why → why ≢ AllSteps →
      RunsPast s.memory events s made before → IsRun before 1 why t
      → RunsTo s most events ending t
