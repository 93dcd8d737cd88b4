use Rattle.dm_laws.proofs.footprints.Depending.{effects_depend}
use Rattle.dm_laws.proofs.footprints.laws.effects_depend_on_reads.Goals as goal

pub returns : goal.returns
returns c = effects_depend
