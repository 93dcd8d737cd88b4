use Rattle.std.proofs.Common.{◌≡◌, inl, inr, subst, None, get_or, length, sym, ap, ◌∙◌}
use Rattle.dm_region.specs.Parts.{part}
use Rattle.dm_pool.proofs.Blocks.{part_length}
use Rattle.dm_pool.specs.Blocks.{Blocks, without}
use Rattle.dm_pool.specs.inner.Order.{blocks_in}
use Rattle.dm_pool.specs.Stored.{Stored}
use Rattle.dm_pool.specs.inner.Stored.{IsKept}
use Rattle.dm_pool.proofs.Stored.{live_store, live_used, pool_kept, pool_fits, pool_told, pool_store, pool_stored, same_stored}
use Rattle.dm_pool.proofs.store.Store.give.Goals as goal

pub part_mut-requires : goal.part_mut-requires
part_mut-requires c = (
  pool_fits c.self.inside.region.bytes c.pool_len-len.result c.self.inside.table c.pool_len-len.ensures (live_store
      c.args.self.now c.self.inside.region c.self.inside.table c.self.inside.in_use c.args.block c.self.invariant
      c.self.view_is c.requires),
  inr (inl (c.self.invariant.used (live_used c.args.self.now c.self.inside.region c.self.inside.table
      c.self.inside.in_use c.args.block c.self.invariant c.self.view_is c.requires))),
)

pub give-requires-clause-told : goal.give-requires-clause-told
give-requires-clause-told c = pool_told c.self.inside.region.bytes c.part_mut.result.now c.pool_len-len.result
    c.self.inside.table c.pool_len-len.ensures c.part_mut.ensures.value (live_store c.args.self.now c.self.inside.region
    c.self.inside.table c.self.inside.in_use c.args.block c.self.invariant c.self.view_is c.requires)

pub give-requires-clause-live : goal.give-requires-clause-live
give-requires-clause-live c =
    let s = c.self.inside in
    let same = sym c.slot.ensures.value in (
      c.slot.ensures.small,
      (
        c.requires.1.0,
        ap (λ (v : Stored). get_or v.blocks.places c.slot.result None) c.self.view_is
            ∙ ap (λ i. get_or c.args.self.now.blocks.places i None) c.slot.ensures.value ∙ c.requires.1.1,
      ),
    )

pub invariant_of-self : goal.invariant_of-self
invariant_of-self c =
    let s = c.self.inside in let len = pool_fits s.region.bytes c.pool_len-len.result s.table c.pool_len-len.ensures
    (live_store c.args.self.now c.self.inside.region c.self.inside.table c.self.inside.in_use c.args.block
    c.self.invariant c.self.view_is c.requires) in
    let long = c.give.auto.bytes ∙ ap length c.part_mut.ensures.value
    ∙ part_length s.region.bytes 0x310000 c.pool_len-len.result len in
    subst (IsKept _ c.give.new.table) (sym (live_used c.args.self.now c.self.inside.region c.self.inside.table
    c.self.inside.in_use c.args.block c.self.invariant c.self.view_is c.requires))
    (pool_kept s.region s.table c.give.new.table _ (subst (IsKept s.region s.table)
    (live_used c.args.self.now c.self.inside.region c.self.inside.table c.self.inside.in_use c.args.block
    c.self.invariant c.self.view_is c.requires) c.self.invariant) (pool_store s.region.bytes c.give.new.bytes
    s.table.units c.pool_len-len.result c.give.new.table c.self.invariant.store.whole c.pool_len-len.ensures long
    c.give.ensures.units c.give.ensures.told))

pub returns : goal.returns
returns c =
    let s = c.self.inside in let len = pool_fits s.region.bytes c.pool_len-len.result s.table c.pool_len-len.ensures
    (live_store c.args.self.now c.self.inside.region c.self.inside.table c.self.inside.in_use c.args.block
    c.self.invariant c.self.view_is c.requires) in
    let long = c.give.auto.bytes ∙ ap length c.part_mut.ensures.value
    ∙ part_length s.region.bytes 0x310000 c.pool_len-len.result len in
    let new = pool_stored s.region.bytes c.give.new.bytes s.table.units c.pool_len-len.result c.give.new.table
    c.self.invariant.store.whole c.pool_len-len.ensures long c.give.ensures.units c.give.ensures.told in
    let was : blocks_in s.table c.part_mut.result.now ≡ c.args.self.now.blocks =
    ap (blocks_in s.table) (c.part_mut.ensures.value ∙ ap (part s.region.bytes 0x310000) c.pool_len-len.ensures)
    ∙ ap (λ (v : Stored). v.blocks) c.self.view_is in
    new ∙ same_stored _ _ _ _ _ _ (ap (λ (v : Stored). v.low) c.self.view_is)
    (ap (λ (v : Stored). v.scratch) c.self.view_is) (c.give.ensures.blocks
    ∙ ap (λ (b : Blocks). without b c.slot.result) was ∙ ap (without c.args.self.now.blocks) c.slot.ensures.value)
