use Rattle.dm_laws.proofs.footprints.Running.{runs_depend}
use Rattle.dm_laws.proofs.footprints.laws.runs_depend_on_inputs.Goals as goal

pub returns : goal.returns
returns c = runs_depend
