use Rattle.dm_proc.proofs.OneAnswer.{keeping_unique}
use Rattle.dm_proc.proofs.laws.staying_resident_has_one_answer.Goals as goal

pub returns : goal.returns
returns c = keeping_unique
