use Rattle.std.proofs.Common.{◌+◌, ◌∙◌, sym, subst, arith}
use Rattle.dm_pool.specs.inner.Order.{IsCut}
use Rattle.dm_pool.proofs.WrittenGaps.{tells_same, tells_gap, tells_lower, contents_gap, end_lower}
use Rattle.dm_pool.proofs.Spelled.{falls}
use Rattle.dm_pool.proofs.free_list.spell.Goals as goal

pub overflow_add-edge : goal.overflow_add-edge
overflow_add-edge c =
    let b = c.highest-top.ensures.below c.loop-end.end c.loop-end.invariant.cut in
    record { fits = omega (arith, b.edge, c.loop-end.invariant.spelling.within, c.recall.ensures.laid.small) }

pub loop-end-preserved-then-edge-end : goal.loop-end-preserved-then-edge-end
loop-end-preserved-then-edge-end c =
    let places = c.args.table.now.places in let units = c.args.table.now.units in let end = c.loop-end.end in let next =
    c.loop-end.next in
    let ys = c.loop-end.bytes in let zs = c.write_gap.new.bytes in let top = c.highest-top.result in let s =
    c.loop-end.invariant.spelling in let cut = c.loop-end.invariant.cut in
    let b = c.highest-top.ensures.below end cut in let gap = c.if-edge-end.true in let out = c.write_gap.ensures.kept in
    record {
      spelling = record {
        within = omega (arith, b.edge, s.within);
        edge = λ pos. end_lower places units end top b pos;
        size = c.write_gap.auto.bytes ∙ s.size;
        contents = contents_gap places units end next c.args.bytes.now ys zs top s b out gap ∙ s.contents;
        tells = tells_lower places units end (top.base + top.units) top zs b
            (tells_gap places units end next c.args.bytes.now ys zs top s b out gap c.write_gap.ensures.units
            c.write_gap.ensures.next);
      };
      cut = subst (λ r. IsCut places c.args.table.now.order r top.base) (sym c.saturating_sub-rest.ensures)
          (c.highest-top.ensures.cut end cut);
    }

pub loop-end-smaller : goal.loop-end-smaller
loop-end-smaller c = falls c.args.table.now.places c.loop-end.end c.highest-top.result c.loop-end-test.true
    (c.highest-top.ensures.below c.loop-end.end c.loop-end.invariant.cut)

pub loop-end-preserved : goal.loop-end-preserved
loop-end-preserved c =
    let places = c.args.table.now.places in let units = c.args.table.now.units in let end = c.loop-end.end in let next =
    c.loop-end.next in
    let ys = c.loop-end.bytes in let top = c.highest-top.result in let s = c.loop-end.invariant.spelling in let cut =
    c.loop-end.invariant.cut in let b = c.highest-top.ensures.below end cut in
    record {
      spelling = record {
        within = omega (arith, b.edge, s.within);
        edge = λ pos. end_lower places units end top b pos;
        size = s.size;
        contents = s.contents;
        tells = tells_lower places units end next top ys b (tells_same places units end next c.args.bytes.now ys ys top
            s b c.if-edge-end.false);
      };
      cut = subst (λ r. IsCut places c.args.table.now.order r top.base) (sym c.saturating_sub-rest.ensures)
          (c.highest-top.ensures.cut end cut);
    }
