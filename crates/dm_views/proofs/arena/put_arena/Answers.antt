use Rattle.std.proofs.Common.{true, false}
use Rattle.std.proofs.lemmas.Result.{on_ok_weaker}
use Rattle.dm_views.proofs.ArenaLists.{alone_told, parted_told, parted_never, parted_by}
use Rattle.dm_views.proofs.arena.put_arena.Goals as goal
use Rattle.dm_views.proofs.arena.put_arena.Goals.{else-upper-via-then-upper+else-not-is_linked, else-upper-via-else-upper}

pub returns-then-not-is_linked : goal.returns-then-not-is_linked
returns-then-not-is_linked c = on_ok_weaker c.put_unlinked.result (λ s. parted_told c.args.upper c.args.space.now.memory
    c.walk.result c.in-Some.first _ _ _ _ c.walk.ensures.memory c.walk.ensures.second c.in-Some.is c.in_ok-first.ensures
    (parted_by _ c.is_linked.result false _ c.if-upper.true c.is_linked.ensures c.if-not-is_linked.true) s)
    c.put_unlinked.ensures

pub returns : goal.returns
returns c = alone_told c.args.upper c.args.space.now.memory c.walk.result c.in-Some.first _ _ _ c.walk.ensures.memory
    c.walk.ensures.second c.in-Some.is c.in_ok-first.ensures (elim c.else-upper.branch [
      | else-upper-via-then-upper+else-not-is_linked w ↦ parted_by _ w.is_linked.result true _ w.if-upper.true
          w.is_linked.ensures w.if-not-is_linked.false
      | else-upper-via-else-upper w ↦ parted_never _ _ w.if-upper.false
    ])
