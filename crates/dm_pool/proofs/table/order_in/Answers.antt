use Rattle.std.proofs.Common.{Some, ap, sym, subst, ◌∙◌, length, lit<, arith}
use Rattle.std.specs.List.{insert}
use Rattle.dm_pool.specs.inner.Order.{IsOrder}
use Rattle.dm_pool.proofs.Blocks.{clear_apart}
use Rattle.dm_pool.proofs.Order.{order_room, order_come, order_same, vacant_units, no_units}
use Rattle.dm_pool.proofs.table.order_in.Goals as goal

pub insert-requires : goal.insert-requires
insert-requires c =
    let room = order_room c.args.places.now c.args.order.now.items c.args.slot c.requires.order (omega (
      arith,
      c.requires.count,
      c.requires.vacant.0,
    )) c.requires.vacant.1 in (
      lit< tt,
      (
        omega (arith, c.rank-position.ensures.within, ap length c.deref.ensures.0),
        omega (arith, c.requires.count, room),
      ),
    )

pub returns-then-place-gt0 : goal.returns-then-place-gt0
returns-then-place-gt0 c =
    let ps = c.args.places.now in let few = c.requires.count in let r = c.rank-position.ensures in let o =
    c.deref.result.now in let k = c.args.slot in let at = c.rank-position.result in
    let come = order_come ps o k at c.args.place (subst (IsOrder ps) (sym c.deref.ensures.0) c.requires.order)
    (omega (arith, few, c.requires.vacant.0)) few c.requires.vacant.1
    (λ i d e. clear_apart ps c.args.place.base c.args.place.units c.requires.free i d e) r.within r.below r.above
    c.if-place-gt0.true in
    subst (IsOrder _) (ap (λ l. insert l at k) c.deref.ensures.0 ∙ sym c.insert.ensures.items) come

pub returns-else-place-gt0 : goal.returns-else-place-gt0
returns-else-place-gt0 c =
    let ps = c.args.places.now in
    order_same ps c.args.order.now.items c.args.slot (Some c.args.place) c.requires.order (omega (
      arith,
      c.requires.count,
      c.requires.vacant.0,
    )) (vacant_units ps c.args.slot c.requires.vacant.1)
    (no_units c.args.place (omega (arith, c.if-place-gt0.false)))
