use Rattle.std.proofs.Common.{arith}
use Rattle.dm_xms.proofs.Bases.{nothing_there}
use Rattle.dm_xms.proofs.blocks.address.Goals as goal

pub returns-else-has : goal.returns-else-has
returns-else-has c = nothing_there c.args.space.now.memory _ (omega arith) c.if-has.ensures.1
