use Rattle.std.proofs.Common.{arith}
use Rattle.dm_blocks.proofs.Bytes.{read-at}
use Rattle.dm_blocks.proofs.header.byte_of.Goals as goal

pub returns : goal.returns
returns c = read-at _ _ _ _ (omega arith) c.requires c.peek.ensures
