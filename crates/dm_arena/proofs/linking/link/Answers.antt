use Rattle.std.proofs.Common.{refl}
use Rattle.dm_blocks.specs.Chain.{first_header}
use Rattle.dm_blocks.specs.Reading.{IsSpelledFrom}
use Rattle.dm_arena.proofs.Parting.{link_alone, link_none, links, clash, differ}
use Rattle.dm_arena.proofs.linking.link.Goals as goal
use Rattle.dm_arena.proofs.linking.link.Goals.{else-on-via-then-on+else-not-has_second, else-on-via-else-on}

pub returns-in_default-clause-memory : goal.returns-in_default-clause-memory
returns-in_default-clause-memory c =
    let a = c.if-not-is_arena.ensures in
    let s : IsSpelledFrom c.args.space.now.memory first_header a.0 = record { nonempty = a.1.0.0; spells = a.1.0.1 } in (
      refl,
      refl,
      link_none _ c.args.on a.0 a.1 (c.in_default.ensures.found a.0 s) (differ _ _ c.args.on
          c.if-is_linked-on.false (c.is_linked.ensures a.0 s)),
    )

pub returns-then-not-has_second-clause-memory : goal.returns-then-not-has_second-clause-memory
returns-then-not-has_second-clause-memory c =
    let h = c.if-not-has_second.ensures in
    let s : IsSpelledFrom c.args.space.now.memory first_header h.0 = record { nonempty = h.1.0.0; spells = h.1.0.1 } in (
      refl,
      refl,
      link_alone _ c.args.on h.0 c.if-on.true h.1 (differ _ _ c.args.on c.if-is_linked-on.false
          (c.is_linked.ensures h.0 s)) h.2,
    )

pub returns-clause-memory : goal.returns-clause-memory
returns-clause-memory c =
    let a = c.if-not-is_arena.ensures in
    let s : IsSpelledFrom c.args.space.now.memory first_header a.0 = record { nonempty = a.1.0.0; spells = a.1.0.1 } in
    let f = c.in-Some.ensures.found a.0 s in
    links _ c.args.on a.0 a.1 c.in-Some.listed f.0 f.1 f.2 _ c.write_header.ensures.memory
    (differ _ _ c.args.on c.if-is_linked-on.false (c.is_linked.ensures a.0 s)) (λ q. elim c.else-on.branch [
      | else-on-via-then-on+else-not-has_second w ↦ w.if-not-has_second.ensures
      | else-on-via-else-on w ↦ absurd (clash c.args.on q w.if-on.false)
    ])
