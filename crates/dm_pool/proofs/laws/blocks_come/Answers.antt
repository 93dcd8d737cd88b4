use Rattle.dm_pool.proofs.Coming.{blocks_come}
use Rattle.dm_pool.proofs.laws.blocks_come.Goals as goal

pub returns : goal.returns
returns c = blocks_come
