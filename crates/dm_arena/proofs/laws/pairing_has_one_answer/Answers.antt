use Rattle.dm_arena.proofs.OnePair.{pairing_unique}
use Rattle.dm_arena.proofs.laws.pairing_has_one_answer.Goals as goal

pub returns : goal.returns
returns c = pairing_unique
