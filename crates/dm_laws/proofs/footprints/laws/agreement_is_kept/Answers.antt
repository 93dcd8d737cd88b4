use Rattle.dm_laws.proofs.footprints.Depending.{agreement_kept}
use Rattle.dm_laws.proofs.footprints.laws.agreement_is_kept.Goals as goal

pub returns : goal.returns
returns c = agreement_kept
