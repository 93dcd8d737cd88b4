use Rattle.dm_blocks.proofs.Unique.{walk_short}
use Rattle.dm_blocks.proofs.laws.walk_is_short.Goals as goal

pub returns : goal.returns
returns c = walk_short
