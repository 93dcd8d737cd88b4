use Rattle.dm_laws.proofs.processes.Parents.{goes_on}
use Rattle.dm_laws.proofs.processes.laws.parent_goes_on.Goals as goal

pub returns : goal.returns
returns c = goes_on
