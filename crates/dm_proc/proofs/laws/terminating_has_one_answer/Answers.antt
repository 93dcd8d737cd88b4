use Rattle.dm_proc.proofs.OneAnswer.{terminating_unique}
use Rattle.dm_proc.proofs.laws.terminating_has_one_answer.Goals as goal

pub returns : goal.returns
returns c = terminating_unique
