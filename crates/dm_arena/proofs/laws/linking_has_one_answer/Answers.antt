use Rattle.dm_arena.proofs.OneLink.{linking_unique}
use Rattle.dm_arena.proofs.laws.linking_has_one_answer.Goals as goal

pub returns : goal.returns
returns c = linking_unique
