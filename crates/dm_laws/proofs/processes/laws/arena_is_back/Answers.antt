use Rattle.dm_laws.proofs.processes.Blocks.{blocks_back}
use Rattle.dm_laws.proofs.processes.laws.arena_is_back.Goals as goal

pub returns : goal.returns
returns c = blocks_back
