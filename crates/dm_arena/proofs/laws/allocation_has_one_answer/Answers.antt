use Rattle.dm_arena.proofs.OneAnswer.{allocation_unique}
use Rattle.dm_arena.proofs.laws.allocation_has_one_answer.Goals as goal

pub returns : goal.returns
returns c = allocation_unique
