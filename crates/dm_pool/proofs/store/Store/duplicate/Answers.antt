use Rattle.std.proofs.Common.{sym, ap, ◌∙◌, subst}
use Rattle.dm_region.specs.Holes.{Holed}
use Rattle.dm_pool.specs.inner.Order.{Layout}
use Rattle.dm_pool.specs.inner.Stored.{IsKept, stored}
use Rattle.dm_pool.proofs.store.Store.duplicate.Goals as goal

pub invariant_of-result : goal.invariant_of-result
invariant_of-result c =
    let s = c.self.inside in
    subst (λ (t : Layout). IsKept c.in_ok-duplicate.field-0 t s.in_use) (sym c.duplicate-2.ensures)
    (subst (λ (h : Holed). IsKept h s.table s.in_use) (sym c.in_ok-duplicate.ensures) c.self.invariant)

pub returns : goal.returns
returns c =
    let s = c.self.inside in
    ap (λ (t : Layout). stored c.in_ok-duplicate.field-0.bytes t) c.duplicate-2.ensures
    ∙ ap (λ (h : Holed). stored h.bytes s.table) c.in_ok-duplicate.ensures ∙ c.self.view_is
