use Rattle.dm_blocks.proofs.Stands.{place-of, low-stands, page-decides}
use Rattle.dm_arena.proofs.Beside.{split-none, new-at, split-at, split-decides}
use Rattle.dm_arena.proofs.standing.may_split_outside.Goals as goal

pub returns-in_default : goal.returns-in_default
returns-in_default c = λ L M s o n. split-none _ _ _ c.in_default.is

pub returns-in-Low : goal.returns-in-Low
returns-in-Low c = λ L M s o n.
    (let h = c.in-Some.header in
    let e = place-of c.args.space.now.memory h.segment _ _ c.back.ensures c.in-Low.is in
    split-at _ M _ h c.in-Some.is (low-stands _ M h.segment _ e (new-at c.args.space.now.memory M _ h c.in-Some.is n)))

pub returns-in-Page : goal.returns-in-Page
returns-in-Page c = λ L M s o n.
    (let h = c.in-Some.header in
    let e = place-of c.args.space.now.memory h.segment _ _ c.back.ensures c.in-Page.is in
    split-decides _ M _ h _ c.in-Some.is (page-decides _ M h.segment _ _ _ e (c.stands_outside.ensures L M s o)))
