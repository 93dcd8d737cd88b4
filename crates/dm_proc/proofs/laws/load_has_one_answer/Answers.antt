use Rattle.dm_proc.proofs.OneAnswer.{load_unique}
use Rattle.dm_proc.proofs.laws.load_has_one_answer.Goals as goal

pub returns : goal.returns
returns c = load_unique
