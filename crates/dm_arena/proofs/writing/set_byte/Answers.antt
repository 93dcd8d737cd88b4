use Rattle.std.proofs.Common.{arith}
use Rattle.dm_blocks.proofs.Bytes.{write-at}
use Rattle.dm_arena.proofs.writing.set_byte.Goals as goal

pub returns-clause-memory : goal.returns-clause-memory
returns-clause-memory c = write-at _ _ _ _ _ (omega arith) c.requires c.knows_sizes.ensures.held c.poke.ensures
