-- Steps that may fail for lack of memory: those that write more bytes to the console than the room holds.
use Rattle.std.specs.Prelude.{◌≡◌, ◌+◌, ◌<◌, length, Option, Some}
use Rattle.dm_services.specs.declared.state.stop.Stop.{Stop}
use Rattle.dm_services.specs.declared.state.stop.Stop.TheVariants.{Memory as NoMemory}
use Rattle.dm_services.specs.state.State.{State, Answer}

-- the result x of a step from s has written more bytes than the room of s holds; never true of a stop that changes
-- nothing
abbrev pub Overflows : State → Answer → Type 0
Overflows s x = s.console.room + length s.console.output < length x.state.console.output

-- some result that Gives allows writes more bytes than the room of s holds
pub record MayWant (s : State) (Gives : Answer → Type 0) : Type 0 where
  pub answer : Answer
  pub gives : Gives answer
  pub overflows : Overflows s answer

-- what a step from s returns (the stop) and leaves (t) is a result that Gives allows; or the stop is `Memory`, t is s,
-- and some allowed result writes more bytes than the room holds: the allocation for them failed
abbrev pub OrWants : State → (Answer → Type 0) → Option Stop → State → Type 0
OrWants s Gives (Some NoMemory) t = MayWant s Gives × (t ≡ s)
OrWants s Gives stop t = Gives (record { stop = stop; state = t })
