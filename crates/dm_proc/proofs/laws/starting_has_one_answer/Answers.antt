use Rattle.dm_proc.proofs.OneAnswer.{exec_unique}
use Rattle.dm_proc.proofs.laws.starting_has_one_answer.Goals as goal

pub returns : goal.returns
returns c = exec_unique
