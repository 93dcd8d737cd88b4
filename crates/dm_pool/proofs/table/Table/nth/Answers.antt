use Rattle.std.proofs.Common.{ℕ, List, get_or, None, length, sym, ap, ◌∙◌, arith}
use Rattle.std.proofs.lemmas.Option.{none-some}
use Rattle.dm_pool.specs.inner.Order.{Layout}
use Rattle.dm_pool.proofs.table.Table.nth.Goals as goal

-- an order has live blocks alone
pub returns-in-None : goal.returns-in-None
returns-in-None c =
    let s = c.self.inside in
    let live = c.self.invariant.order.live c.args.position (omega (
      arith,
      c.requires,
      ap (λ (l : Layout). length l.order) c.self.view_is,
    )) in
    absurd (none-some live.0 (sym (sym (ap (λ (o : List ℕ). get_or s.places (get_or o c.args.position 0) None)
    c.deref.ensures.0) ∙ c.in-None.is) ∙ live.1))
