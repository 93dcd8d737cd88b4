-- What a user changes in a machine between its steps, and when.
use Rattle.std.specs.Prelude.{ℕ, nat_le, List}
use Rattle.std.specs.List.{take_while}
use Rattle.dm_space.specs.Buffers.{with_bytes}
use Rattle.dm_services.specs.state.State.{State}
use Rattle.dm_history.specs.declared.change.Change.{Change}
use Rattle.dm_history.specs.declared.change.Change.TheVariants.{Registers, Written}
use Rattle.dm_history.specs.declared.change.TimedChange.{TimedChange}

-- the state after a change: other registers, or bytes written from segment:offset up; offsets wrap
abbrev pub changed : Change → State → State
changed (Registers cpu) s = record s { cpu = cpu }
changed (Written segment offset bytes) s = record s { memory = with_bytes s.memory segment offset bytes }

-- the edits made up to a step, and at it. Edits stand in the order in which they were made, so in that of their steps
abbrev pub edits_to : ℕ → List TimedChange → List TimedChange
edits_to step edits = take_while (λ e. nat_le e.step step) edits
