use Rattle.std.proofs.Common.{arith}
use Rattle.dm_blocks.proofs.LowPart.{proceeds}
use Rattle.dm_blocks.proofs.low.low_header.Goals as goal

pub returns-clause-proceeds : goal.returns-clause-proceeds
returns-clause-proceeds c = proceeds _ _ _ (omega arith) c.header_at.ensures
