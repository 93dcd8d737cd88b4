use Rattle.dm_arena.proofs.Looking.{looking-start, looked-here, looked-none, looked-more}
use Rattle.dm_arena.proofs.standing.stands_joined.Goals as goal

pub walk-init : goal.walk-init
walk-init c = λ L s. (L, looking-start _ _ _ L _ s)

pub returns-then-is_on : goal.returns-then-is_on
returns-then-is_on c = λ L s.
    (let k = c.walk.invariant L s in
    let f = c.joined_at-listed.ensures.front k.0 k.1.spelled in
    looked-here _ _ L _ _ k.0 k.1 _ c.joined_at-listed.ensures.there f.0 f.1 c.if-is_on.ensures)

pub returns-then-listed : goal.returns-then-listed
returns-then-listed c = λ L s.
    (let k = c.walk.invariant L s in
    let f = c.joined_at-listed.ensures.front k.0 k.1.spelled in
    looked-none _ _ L _ _ k.0 k.1 _ c.joined_at-listed.ensures.there f.0 f.1 c.if-is_on.ensures c.if-listed.true)

pub walk-preserved : goal.walk-preserved
walk-preserved c = λ L s.
    (let k = c.walk.invariant L s in
    let f = c.joined_at-listed.ensures.front k.0 k.1.spelled in
    looked-more _ _ L _ _ k.0 k.1 _ c.joined_at-listed.ensures.there f.0 f.1 c.if-is_on.ensures c.if-listed.false _
    c.next-segment.ensures)
