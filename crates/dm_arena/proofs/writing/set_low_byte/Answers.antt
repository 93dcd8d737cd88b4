use Rattle.std.proofs.Common.{arith}
use Rattle.dm_blocks.proofs.Bytes.{write-at}
use Rattle.dm_arena.proofs.writing.set_low_byte.Goals as goal

pub returns-clause-memory : goal.returns-clause-memory
returns-clause-memory c = write-at _ _ _ _ _ (omega arith) c.requires.offset c.knows_sizes.ensures.held
    c.set_low_byte.ensures
