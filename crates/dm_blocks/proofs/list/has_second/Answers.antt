use Rattle.std.proofs.Common.{◌∙◌}
use Rattle.dm_blocks.proofs.Telling.{second-told_all}
use Rattle.dm_blocks.proofs.list.has_second.Goals as goal

pub returns : goal.returns
returns c = second-told_all _ _ _ c.tell_all-2.result (c.walk_second-second.ensures.memory ∙ c.if-not-tell_all.ensures.0
    ∙ c.walk-first.ensures.memory) c.walk_second-second.ensures.second c.tell_all-2.ensures
