use Rattle.dm_services.proofs.OneAnswer.{serves-one}
use Rattle.dm_services.proofs.laws.services_have_one_answer.Goals as goal

pub returns : goal.returns
returns c = serves-one
