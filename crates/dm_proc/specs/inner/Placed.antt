-- Where the two blocks of a process are. For private contracts and proofs alone.
use Rattle.dm_proc.specs.declared.placed.Blocks.{Blocks}
use Rattle.dm_arena.specs.Pair.{Placed}

-- the `Blocks` of the code as the `Placed` of contracts
abbrev pub as_placed : Blocks → Placed
as_placed b = record { environment = b.environment_segment; program = b.program; size = b.size }
