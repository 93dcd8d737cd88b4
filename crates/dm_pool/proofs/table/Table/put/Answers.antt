use Rattle.std.proofs.Common.{◌≡◌, ◌+◌, ◌≤◌, true, sym, subst}
use Rattle.dm_pool.specs.Gaps.{is_clear}
use Rattle.dm_pool.specs.inner.Order.{Layout}
use Rattle.dm_pool.proofs.Coming.{come_based}
use Rattle.dm_pool.proofs.Layouts.{come_laid}
use Rattle.dm_pool.proofs.table.Table.put.Goals as goal

pub invariant_of-self : goal.invariant_of-self
invariant_of-self c =
    let s = c.self.inside in let b = c.args.place in let back = sym c.self.view_is in
    record {
      laid = come_laid s.units s.places c.args.slot b c.requires.vacant.0 c.self.invariant.laid
          (subst (λ (l : Layout). b.base + b.units ≤ l.units) back c.requires.within)
          (subst (λ (l : Layout). is_clear l.places b.base b.units ≡ true) back c.requires.free);
      based = come_based s.places c.args.slot b c.self.invariant.based c.requires.based;
      order = c.order_in.ensures;
    }
