use Rattle.std.proofs.Common.{◌/◌, sym, inl, inr, ap, ◌∙◌}
use Rattle.dm_pool.specs.Gaps.{gaps, count_fitting}
use Rattle.dm_pool.specs.Stored.{Stored}
use Rattle.dm_pool.proofs.Fresh.{fresh_count_fitting}
use Rattle.dm_pool.proofs.Stored.{not_used, pool_fits, pool_told, used_store}
use Rattle.dm_pool.proofs.store.Store.count_fitting.Goals as goal

pub part-requires : goal.part-requires
part-requires c = (
  pool_fits c.self.inside.region.bytes c.pool_len-len.result c.self.inside.table c.pool_len-len.ensures
      (used_store c.self.inside.region c.self.inside.table c.self.inside.in_use c.self.invariant c.if-self.true),
  inr (inl (c.self.invariant.used c.if-self.true)),
)

pub count_fitting-requires-clause-told : goal.count_fitting-requires-clause-told
count_fitting-requires-clause-told c = pool_told c.self.inside.region.bytes c.part.result.now c.pool_len-len.result
    c.self.inside.table c.pool_len-len.ensures c.part.ensures (used_store c.self.inside.region c.self.inside.table
    c.self.inside.in_use c.self.invariant c.if-self.true)

pub returns-then-self : goal.returns-then-self
returns-then-self c = c.count_fitting.ensures ∙ ap (λ (s : Stored). count_fitting c.args.units
    (gaps s.blocks.places s.blocks.units)) c.self.view_is

pub returns-else-self : goal.returns-else-self
returns-else-self c =
    let t = c.self.inside.table in
    ap (λ n. n / c.args.units) c.units.ensures ∙ sym (fresh_count_fitting t.units c.args.units t.places
    (not_used c.self.inside.region t c.self.inside.in_use c.self.invariant c.if-self.false))
    ∙ ap (λ (s : Stored). count_fitting c.args.units (gaps s.blocks.places s.blocks.units)) c.self.view_is
