use Rattle.dm_proc.proofs.OneAnswer.{overlay_unique}
use Rattle.dm_proc.proofs.laws.overlay_has_one_answer.Goals as goal

pub returns : goal.returns
returns c = overlay_unique
