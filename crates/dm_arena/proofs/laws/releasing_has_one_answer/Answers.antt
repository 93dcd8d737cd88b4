use Rattle.dm_arena.proofs.OneAnswer.{releasing_unique}
use Rattle.dm_arena.proofs.laws.releasing_has_one_answer.Goals as goal

pub returns : goal.returns
returns c = releasing_unique
