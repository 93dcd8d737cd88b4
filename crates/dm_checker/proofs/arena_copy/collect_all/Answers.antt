use Rattle.std.proofs.Common.{false}
use Rattle.std.proofs.lemmas.Result.{IfOk-weaker}
use Rattle.dm_checker.proofs.Shown.{collects_at, all_cut, all_parted, parted_by}
use Rattle.dm_checker.proofs.arena_copy.collect_all.Goals as goal

pub returns-in-Err : goal.returns-in-Err
returns-in-Err c = all_cut c.args.upper c.args.space.now.memory c.walk.result c.in-Err.at c.broken_of.result _ _
    c.walk.ensures.memory c.walk.ensures.second (collects_at _ _ _ _ _ c.in-Err.is c.in_ok-first.ensures)
    c.broken_of.ensures.segment c.broken_of.ensures.bits

pub returns-then-not-is_linked : goal.returns-then-not-is_linked
returns-then-not-is_linked c = IfOk-weaker c.collect_second.result _ _
    (λ broken s. all_parted c.args.upper c.args.space.now.memory c.walk.result c.in-Ok.first broken _ _ _
    c.walk.ensures.memory c.walk.ensures.second (collects_at _ _ _ _ _ c.in-Ok.is c.in_ok-first.ensures)
    (parted_by _ c.is_linked.result false _ c.if-upper.true c.is_linked.ensures c.if-not-is_linked.true) s)
    c.collect_second.ensures
