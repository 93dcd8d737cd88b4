use Rattle.dm_arena.proofs.Allocating.{placing_of, placed}
use Rattle.dm_arena.proofs.allocation.allocate.Goals as goal

pub write_joined-requires-clause-placing : goal.write_joined-requires-clause-placing
write_joined-requires-clause-placing c =
    let p = c.in_ok-plan.ensures.plan in
    placing_of _ _ _ _ _ _ c.in_ok-plan.plan.cut p.taking p.cut_is p.clear

pub returns-clause-memory : goal.returns-clause-memory
returns-clause-memory c =
    let p = c.in_ok-plan.ensures.plan in (
      p.taking,
      p.segment_is,
      placed _ _ _ _ _ _ c.in_ok-plan.plan.cut p.taking p.cut_is p.clear _ c.write_joined.ensures.memory,
    )
