use Rattle.dm_laws.proofs.steps.Steps.{possible}
use Rattle.dm_laws.proofs.steps.laws.a_step_is_possible.Goals as goal

pub returns : goal.returns
returns c = possible
