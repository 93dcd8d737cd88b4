use Rattle.dm_drivers.proofs.Coming.{block}
use Rattle.dm_drivers.proofs.laws.block_comes.Goals as goal

pub returns : goal.returns
returns c = block
