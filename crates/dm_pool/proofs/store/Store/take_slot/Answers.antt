use Rattle.std.proofs.Common.{◌≡◌, length, sym, subst, inl, inr, ap, refl, ◌∙◌}
use Rattle.dm_region.specs.Parts.{part}
use Rattle.dm_pool.proofs.Blocks.{part_length}
use Rattle.dm_pool.specs.inner.Order.{blocks_in}
use Rattle.dm_pool.specs.Stored.{Stored}
use Rattle.dm_pool.specs.inner.Stored.{IsKept}
use Rattle.dm_pool.proofs.Stored.{pool_kept, pool_fits, pool_told, pool_store, pool_stored, same_stored, told_taken}
use Rattle.dm_pool.proofs.store.Store.take_slot.Goals as goal

pub part_mut-requires : goal.part_mut-requires
part_mut-requires c = (
  pool_fits c.use_pool.new.region.bytes c.pool_len-len.result c.use_pool.new.table c.pool_len-len.ensures
      c.use_pool.ensures.kept.store,
  inr (inl (c.use_pool.ensures.kept.used refl)),
)

pub take-requires : goal.take-requires
take-requires c = pool_told c.use_pool.new.region.bytes c.part_mut.result.now c.pool_len-len.result c.use_pool.new.table
    c.pool_len-len.ensures c.part_mut.ensures.value c.use_pool.ensures.kept.store

pub invariant_of-self : goal.invariant_of-self
invariant_of-self c =
    let len = pool_fits c.use_pool.new.region.bytes c.pool_len-len.result c.use_pool.new.table c.pool_len-len.ensures
    c.use_pool.ensures.kept.store in
    let long = c.take.auto.bytes ∙ ap length c.part_mut.ensures.value
    ∙ part_length c.use_pool.new.region.bytes 0x310000 c.pool_len-len.result len in
    subst (IsKept _ c.take.new.table) (sym c.use_pool.ensures.in_use)
    (pool_kept c.use_pool.new.region c.use_pool.new.table c.take.new.table _ c.use_pool.ensures.kept
    (pool_store c.use_pool.new.region.bytes c.take.new.bytes c.use_pool.new.table.units c.pool_len-len.result
    c.take.new.table c.use_pool.ensures.kept.store.whole c.pool_len-len.ensures long c.take.ensures.units
    c.take.ensures.told))

pub returns-clause-taken : goal.returns-clause-taken
returns-clause-taken c =
    let len = pool_fits c.use_pool.new.region.bytes c.pool_len-len.result c.use_pool.new.table c.pool_len-len.ensures
    c.use_pool.ensures.kept.store in
    let long = c.take.auto.bytes ∙ ap length c.part_mut.ensures.value
    ∙ part_length c.use_pool.new.region.bytes 0x310000 c.pool_len-len.result len in
    let new = pool_stored c.use_pool.new.region.bytes c.take.new.bytes c.use_pool.new.table.units c.pool_len-len.result
    c.take.new.table c.use_pool.ensures.kept.store.whole c.pool_len-len.ensures long c.take.ensures.units
    c.take.ensures.told in
    let was : blocks_in c.use_pool.new.table c.part_mut.result.now ≡ c.args.self.now.blocks =
    ap (blocks_in c.use_pool.new.table) (c.part_mut.ensures.value
    ∙ ap (part c.use_pool.new.region.bytes 0x310000) c.pool_len-len.ensures)
    ∙ ap (λ (v : Stored). v.blocks) (c.use_pool.ensures.stored ∙ c.self.view_is) in
    let told = new ∙ same_stored _ _ _ _ _ _ (ap (λ (v : Stored). v.low) (c.use_pool.ensures.stored
    ∙ c.self.view_is)) (ap (λ (v : Stored). v.scratch) (c.use_pool.ensures.stored ∙ c.self.view_is)) refl in
    told_taken c.args.self.now _ c.use_pool.new.table c.take.new.table c.part_mut.result.now c.take.new.bytes was told
    c.take.result c.args.units c.take.ensures.taken
