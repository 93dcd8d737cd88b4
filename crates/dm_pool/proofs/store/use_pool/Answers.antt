use Rattle.std.proofs.Common.{◌+◌, ◌*◌, ◌≤◌, length, sym, ap, ◌∙◌, subst, arith}
use Rattle.dm_region.specs.Holes.{Holed}
use Rattle.dm_region.proofs.Written.{part_length}
use Rattle.dm_pool.specs.inner.FreeList.{Tells}
use Rattle.dm_pool.specs.inner.Order.{Layout, IsToldIn}
use Rattle.dm_pool.specs.inner.Stored.{low_part, scratch_part}
use Rattle.dm_pool.proofs.Fresh.{none_units, none_blocks}
use Rattle.dm_pool.proofs.Stored.{not_used, pool_store, pool_stored, same_stored}
use Rattle.dm_pool.proofs.store.use_pool.Goals as goal

pub spell-first-requires : goal.spell-first-requires
spell-first-requires c =
    let k = c.requires in let xs = c.fill_down.new.self.bytes in let N = c.pool_len-len.result in
    let fits : 0x310000 + N ≤ length xs = omega (
      arith,
      c.pool_len-len.ensures,
      ap (λ (h : Holed). length h.bytes) c.fill_down.ensures,
      k.store.whole,
    ) in
    ap length c.part_mut.ensures.value ∙ part_length xs 0x310000 N fits ∙ c.pool_len-len.ensures

pub returns-clause-kept : goal.returns-clause-kept
returns-clause-kept c =
    let k = c.requires in let t = c.args.table.now in let xs = c.fill_down.new.self.bytes in let N =
    c.pool_len-len.result in let w = c.spell-first.new.bytes in
    let whole = ap (λ (h : Holed). length h.bytes) c.fill_down.ensures ∙ k.store.whole in
    let fits : 0x310000 + N ≤ length xs = omega (arith, c.pool_len-len.ensures, whole) in
    let long = c.spell-first.auto.bytes ∙ ap length c.part_mut.ensures.value ∙ part_length xs 0x310000 N fits in
    let units = ap (λ (l : Layout). l.units) c.set_first.ensures in
    let tells = subst (λ (l : Layout). Tells l.places l.units 0 l.first w) (sym c.set_first.ensures)
    c.spell-first.ensures.told in
    let told : IsToldIn c.set_first.new.self w =
    record { whole = long ∙ c.pool_len-len.ensures ∙ ap (λ n. n * 1024) (sym units); tells = tells } in
    let from = ap (λ (h : Holed). h.from) c.fill_down.ensures in
    let to = ap (λ (h : Holed). h.to) c.fill_down.ensures in
    record {
      store = pool_store xs w t.units N c.set_first.new.self whole c.pool_len-len.ensures long units told;
      low = omega (arith, from, k.low);
      front = omega (arith, from, k.front);
      back = omega (arith, to, k.back);
      used = λ e. omega (arith, to, k.back);
    }

pub returns-clause-stored : goal.returns-clause-stored
returns-clause-stored c =
    let k = c.requires in let h = c.args.region.now in let t = c.args.table.now in let xs =
    c.fill_down.new.self.bytes in let N = c.pool_len-len.result in let w = c.spell-first.new.bytes in
    let whole = ap (λ (h : Holed). length h.bytes) c.fill_down.ensures ∙ k.store.whole in
    let fits : 0x310000 + N ≤ length xs = omega (arith, c.pool_len-len.ensures, whole) in
    let long = c.spell-first.auto.bytes ∙ ap length c.part_mut.ensures.value ∙ part_length xs 0x310000 N fits in
    let units = ap (λ (l : Layout). l.units) c.set_first.ensures in
    let tells = subst (λ (l : Layout). Tells l.places l.units 0 l.first w) (sym c.set_first.ensures)
    c.spell-first.ensures.told in
    let told : IsToldIn c.set_first.new.self w =
    record { whole = long ∙ c.pool_len-len.ensures ∙ ap (λ n. n * 1024) (sym units); tells = tells } in
    let none = not_used h t c.args.in_use.now k c.if-in_use.false in
    let bytes = ap (λ (h : Holed). h.bytes) c.fill_down.ensures in
    pool_stored xs w t.units N c.set_first.new.self whole c.pool_len-len.ensures long units told
    ∙ same_stored _ _ _ _ _ _ (ap low_part bytes) (ap scratch_part bytes)
    (none_blocks t.units c.set_first.new.self w (units ∙ sym (none_units t.units))
    (ap (λ (l : Layout). l.places) c.set_first.ensures ∙ none)
    ∙ sym (none_blocks t.units t _ (sym (none_units t.units)) none))
