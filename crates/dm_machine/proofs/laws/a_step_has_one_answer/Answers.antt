use Rattle.dm_machine.proofs.OneRun.{steps-one}
use Rattle.dm_machine.proofs.laws.a_step_has_one_answer.Goals as goal

pub returns : goal.returns
returns c = steps-one
