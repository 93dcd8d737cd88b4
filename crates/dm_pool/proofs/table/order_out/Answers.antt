use Rattle.std.proofs.Common.{None, sym, subst, refl, ◌∙◌, ap, length, arith}
use Rattle.std.specs.List.{remove}
use Rattle.dm_pool.specs.inner.Order.{IsOrder, has_units}
use Rattle.dm_pool.proofs.Order.{order_go, order_same, stands_there, no_units}
use Rattle.dm_pool.proofs.table.order_out.Goals as goal

pub remove-requires : goal.remove-requires
remove-requires c =
    let r = c.rank-position.ensures in let ps = c.args.places.now in
    let there = stands_there ps c.deref.result.now c.args.slot c.rank-position.result c.args.place
    (subst (IsOrder ps) (sym c.deref.ensures.0) c.requires.order) (omega (
      arith,
      c.requires.count,
      c.requires.live.0,
    )) c.requires.live.1
    c.if-place-gt0.true r.within r.below r.above in
    omega (arith, there.0, ap length c.deref.ensures.0)

pub returns-then-place-gt0 : goal.returns-then-place-gt0
returns-then-place-gt0 c =
    let r = c.rank-position.ensures in let ps = c.args.places.now in let at = c.rank-position.result in
    let go = order_go ps c.deref.result.now c.args.slot at c.args.place (subst (IsOrder ps)
    (sym c.deref.ensures.0) c.requires.order) (omega (arith, c.requires.count, c.requires.live.0)) c.requires.live.1
    c.if-place-gt0.true r.within r.below r.above in
    subst (IsOrder _) (ap (λ l. remove l at) c.deref.ensures.0 ∙ sym c.remove.ensures.items) go

pub returns-else-place-gt0 : goal.returns-else-place-gt0
returns-else-place-gt0 c =
    order_same c.args.places.now c.args.order.now.items c.args.slot None c.requires.order (omega (
      arith,
      c.requires.count,
      c.requires.live.0,
    )) (ap has_units c.requires.live.1
    ∙ no_units c.args.place (omega (arith, c.if-place-gt0.false))) refl
