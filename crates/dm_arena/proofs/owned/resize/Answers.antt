use Rattle.std.proofs.Common.{refl, inr, arith}
use Rattle.dm_blocks.specs.Chain.{first_header}
use Rattle.dm_blocks.specs.Reading.{IsSpelledFrom}
use Rattle.dm_arena.specs.inner.Walks.{IsGrowable}
use Rattle.dm_arena.proofs.Growing.{with_free, size_is, outside, resized_new, clear_resized, resizing, resizes, unresized}
use Rattle.dm_arena.proofs.owned.resize.Goals as goal

pub returns-then-n-grown-clause-memory : goal.returns-then-n-grown-clause-memory
returns-then-n-grown-clause-memory c =
    let x = c.in_ok-block.ensures in
    let s : IsSpelledFrom c.args.space.now.memory first_header x.list = record {
      nonempty = x.arena.0.0;
      spells = x.arena.0.1;
    } in
    let o = x.found.0 in
    let f = x.found.1 x.list s in
    let w : IsGrowable c.args.space.now.memory c.in_ok-block.block f.1 = record { last = f.2.last; rest = f.2.rest } in
    let g = c.grow-grown.ensures.grown f.1 w in (
      refl,
      (
        with_free _ _ _ x.list _ c.args.n c.in_ok-block.block c.grow-grown.result f.0 f.1 g.0 g.1 x.arena f.2 g.2 g.3
            o,
        size_is _ _ _ x.list _ c.args.n c.in_ok-block.block c.grow-grown.result f.0 f.1 g.0 g.1 x.arena f.2 g.2 g.3
            o,
        c.if-n-grown.true,
      ),
    )

pub may_split_outside-requires : goal.may_split_outside-requires
may_split_outside-requires c =
    let x = c.in_ok-block.ensures in
    (x.list, record { nonempty = x.arena.0.0; spells = x.arena.0.1 })

pub returns-then-not-may_split_outside-clause-memory : goal.returns-then-not-may_split_outside-clause-memory
returns-then-not-may_split_outside-clause-memory c =
    let x = c.in_ok-block.ensures in
    let s : IsSpelledFrom c.args.space.now.memory first_header x.list = record {
      nonempty = x.arena.0.0;
      spells = x.arena.0.1;
    } in
    let o = x.found.0 in
    let f = x.found.1 x.list s in
    let w : IsGrowable c.args.space.now.memory c.in_ok-block.block f.1 = record { last = f.2.last; rest = f.2.rest } in
    let g = c.grow-grown.ensures.grown f.1 w in (
      refl,
      inr (unresized _ _ _ x.list _ c.args.n c.in_ok-block.block c.grow-grown.result f.0 f.1 g.0 g.1 x.arena f.2
          g.2 g.3 o (omega arith) c.cut_of-cut.result c.cut_of-cut.ensures.cut
          (c.if-not-may_split_outside.ensures x.list _ s (outside _ _ _ x.list _ c.args.n c.in_ok-block.block
          c.grow-grown.result f.0 f.1 g.0 g.1 x.arena f.2 g.2 g.3 o _ c.next-end.ensures)
          (resized_new _ _ _ x.list _ c.args.n c.in_ok-block.block c.grow-grown.result f.0 f.1 g.0 g.1 x.arena f.2 g.2
          g.3
          o (omega arith) c.cut_of-cut.result c.cut_of-cut.ensures.cut))),
    )

pub returns-clause-memory : goal.returns-clause-memory
returns-clause-memory c =
    let x = c.in_ok-block.ensures in
    let s : IsSpelledFrom c.args.space.now.memory first_header x.list = record {
      nonempty = x.arena.0.0;
      spells = x.arena.0.1;
    } in
    let o = x.found.0 in
    let f = x.found.1 x.list s in
    let w : IsGrowable c.args.space.now.memory c.in_ok-block.block f.1 = record { last = f.2.last; rest = f.2.rest } in
    let g = c.grow-grown.ensures.grown f.1 w in
    let k = clear_resized _ _ _ x.list _ c.args.n c.in_ok-block.block c.grow-grown.result f.0 f.1 g.0 g.1 x.arena f.2
    g.2 g.3 o (omega arith) c.cut_of-cut.result c.cut_of-cut.ensures.cut
    (c.if-not-may_split_outside.ensures x.list _ s (outside _ _ _ x.list _ c.args.n c.in_ok-block.block
    c.grow-grown.result f.0 f.1 g.0 g.1 x.arena f.2 g.2 g.3 o _ c.next-end.ensures)
    (resized_new _ _ _ x.list _ c.args.n c.in_ok-block.block c.grow-grown.result f.0 f.1 g.0 g.1 x.arena f.2 g.2 g.3
    o (omega arith) c.cut_of-cut.result c.cut_of-cut.ensures.cut)) in
    resizes _ _ _ x.list _ c.args.n c.in_ok-block.block c.grow-grown.result f.0 f.1 g.0 g.1 x.arena f.2 g.2 g.3 o
    (omega arith) c.cut_of-cut.result c.cut_of-cut.ensures.cut k _
    (c.write_cut.ensures.memory _ _ _ _ _ _ (resizing _ _ _ x.list _ c.args.n c.in_ok-block.block c.grow-grown.result
    f.0 f.1 g.0 g.1 x.arena f.2 g.2 g.3 o (omega arith) c.cut_of-cut.result c.cut_of-cut.ensures.cut k))
