use Rattle.dm_blocks.proofs.Telling.{first-told_all}
use Rattle.dm_blocks.proofs.list.is_arena.Goals as goal

pub returns-in-UpTo : goal.returns-in-UpTo
returns-in-UpTo c = first-told_all _ _ _ c.tell_all.result c.walk_from.ensures.memory c.walk_from.ensures.second
    c.tell_all.ensures
