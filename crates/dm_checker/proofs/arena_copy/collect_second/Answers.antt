use Rattle.std.proofs.Common.{◌∙◌}
use Rattle.dm_checker.proofs.Shown.{collects_at, second_whole, second_broken}
use Rattle.dm_checker.proofs.arena_copy.collect_second.Goals as goal

pub returns-in-Ok : goal.returns-in-Ok
returns-in-Ok c = second_whole c.args.space.now.memory c.walk_second.result _ _ _ (c.walk_second.ensures.memory
    ∙ c.requires.memory) c.walk_second.ensures.second (collects_at _ _ _ _ _ c.in-Ok.is c.in_ok-collect.ensures)

pub returns-in-Err : goal.returns-in-Err
returns-in-Err c = second_broken c.args.space.now.memory c.walk_second.result c.in-Err.at c.broken_of.result _ _
    (c.walk_second.ensures.memory ∙ c.requires.memory) c.walk_second.ensures.second
    (collects_at _ _ _ _ _ c.in-Err.is c.in_ok-collect.ensures) c.broken_of.ensures.segment c.broken_of.ensures.bits
