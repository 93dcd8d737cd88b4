use Rattle.dm_arena.proofs.OneAnswer.{freeing_unique}
use Rattle.dm_arena.proofs.laws.freeing_has_one_answer.Goals as goal

pub returns : goal.returns
returns c = freeing_unique
