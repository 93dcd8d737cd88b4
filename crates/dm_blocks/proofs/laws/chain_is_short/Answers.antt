use Rattle.dm_blocks.proofs.Unique.{chain_short}
use Rattle.dm_blocks.proofs.laws.chain_is_short.Goals as goal

pub returns : goal.returns
returns c = chain_short
