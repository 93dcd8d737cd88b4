use Rattle.dm_laws.proofs.footprints.Stepping.{steps_depend}
use Rattle.dm_laws.proofs.footprints.laws.steps_depend_on_reads.Goals as goal

pub returns : goal.returns
returns c = steps_depend
