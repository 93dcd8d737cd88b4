use Rattle.dm_laws.proofs.instructions.Spelled.{keeps_well_formed}
use Rattle.dm_laws.proofs.instructions.laws.instructions_keep_well_formed.Goals as goal

pub returns : goal.returns
returns c = keeps_well_formed
