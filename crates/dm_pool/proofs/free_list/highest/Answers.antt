use Rattle.std.proofs.Common.{◌<◌, subst, arith}
use Rattle.dm_pool.specs.inner.Order.{IsCut}
use Rattle.dm_pool.proofs.Spelled.{none_below, top_below, cut_below}
use Rattle.dm_pool.proofs.free_list.highest.Goals as goal

pub returns-then-rest-eq0-clause-below : goal.returns-then-rest-eq0-clause-below
returns-then-rest-eq0-clause-below c = λ end cut.
    let t = c.args.table.now in none_below end t.places t.order c.recall.ensures.based c.recall.ensures.order
    (subst (λ r. IsCut t.places t.order r end) c.if-rest-eq0.true cut)

pub returns : goal.returns
returns c =
    let t = c.args.table.now in let k = c.recall.ensures in let some : 0 < c.args.rest =
    omega (arith, c.if-rest-eq0.false) in
    record {
      below = λ end cut. top_below end c.args.rest t.places t.order c.nth.result k.based k.order some cut c.nth.ensures;
      cut = λ end cut. cut_below end c.args.rest t.places t.order c.nth.result k.based k.order some cut c.nth.ensures;
    }
