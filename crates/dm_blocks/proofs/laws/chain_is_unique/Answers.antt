use Rattle.dm_blocks.proofs.Unique.{chain_unique}
use Rattle.dm_blocks.proofs.laws.chain_is_unique.Goals as goal

pub returns : goal.returns
returns c = chain_unique
