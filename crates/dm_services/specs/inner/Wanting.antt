-- Steps with one result that may fail for lack of memory, as specs/Wanting.antt has it for several results. Private
-- contracts and proofs alone name this.
use Rattle.std.specs.Prelude.{◌≡◌, Option, Some}
use Rattle.dm_services.specs.declared.state.stop.Stop.{Stop}
use Rattle.dm_services.specs.declared.state.stop.Stop.TheVariants.{Memory as NoMemory}
use Rattle.dm_services.specs.state.State.{State, Answer}
use Rattle.dm_services.specs.Wanting.{Overflows}

-- what a step from s returns (the stop) and leaves (t) is the result x; or the stop is `Memory`, t is s, and x writes
-- more bytes than the room of s holds: the allocation for them failed
abbrev pub OrMemory : State → Answer → Option Stop → State → Type 0
OrMemory s x (Some NoMemory) t = Overflows s x × (t ≡ s)
OrMemory s x stop t = record { stop = stop; state = t } ≡ x
