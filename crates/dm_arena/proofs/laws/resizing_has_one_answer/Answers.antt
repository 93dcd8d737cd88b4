use Rattle.dm_arena.proofs.OneAnswer.{resizing_unique}
use Rattle.dm_arena.proofs.laws.resizing_has_one_answer.Goals as goal

pub returns : goal.returns
returns c = resizing_unique
