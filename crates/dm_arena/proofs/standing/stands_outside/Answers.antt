use Rattle.dm_arena.proofs.Looking.{outside-start, found-outside, none-outside, outside-more}
use Rattle.dm_arena.proofs.standing.stands_outside.Goals as goal

pub walk-init : goal.walk-init
walk-init c = λ L s. (L, outside-start _ _ L _ _ _ s)

pub returns-then-is_on_outside : goal.returns-then-is_on_outside
returns-then-is_on_outside c = λ L M s m.
    (let k = c.walk.invariant L s in
    let f = c.spelled_header-listed.ensures.front k.0 k.1.spelled in
    found-outside _ L _ _ _ _ k.0 k.1 _ c.spelled_header-listed.ensures.there f.0 f.1 M m c.if-is_on_outside.ensures)

pub returns-then-listed : goal.returns-then-listed
returns-then-listed c = λ L M s m.
    (let k = c.walk.invariant L s in
    let f = c.spelled_header-listed.ensures.front k.0 k.1.spelled in
    none-outside _ L _ _ _ _ k.0 k.1 _ c.spelled_header-listed.ensures.there f.0 f.1 M m c.if-is_on_outside.ensures
    c.if-listed.true)

pub walk-preserved : goal.walk-preserved
walk-preserved c = λ L s.
    (let k = c.walk.invariant L s in
    let f = c.spelled_header-listed.ensures.front k.0 k.1.spelled in
    outside-more _ L _ _ _ _ k.0 k.1 _ c.spelled_header-listed.ensures.there f.0 f.1 c.if-is_on_outside.ensures
    c.if-listed.false _ c.next-segment.ensures)
