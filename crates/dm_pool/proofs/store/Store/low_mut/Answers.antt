use Rattle.std.proofs.Common.{refl, sym, ◌∙◌, ap, ◌+◌, ◌*◌, ◌≤◌, length, inl, inr, subst, arith}
use Rattle.dm_pool.specs.Stored.{Stored, refit}
use Rattle.dm_pool.specs.inner.Order.{blocks_in}
use Rattle.dm_pool.specs.inner.Stored.{IsListed}
use Rattle.dm_pool.proofs.Blocks.{part_length}
use Rattle.dm_pool.proofs.Stored.{with_kept, lent, lent_length, lent_elsewhere, lent_refit, same_stored}
use Rattle.dm_pool.proofs.store.Store.low_mut.Goals as goal

pub part_mut-requires : goal.part_mut-requires
part_mut-requires c = (omega (arith, c.self.invariant.store.whole), inl c.self.invariant.low)

pub invariant_of-self-lent : goal.invariant_of-self-lent
invariant_of-self-lent c = λ w.
    let xs = c.self.inside.region.bytes in let t = c.self.inside.table in let fits : 0 + 0x110000 ≤ length xs =
    omega (arith, c.self.invariant.store.whole) in
    with_kept c.self.inside.region t t c.self.inside.in_use (lent xs w 0 0x110000 fits) c.self.invariant (record {
      whole = lent_length xs w 0 0x110000 fits ∙ c.self.invariant.store.whole;
      listed = subst (IsListed c.self.inside.in_use t) (sym (lent_elsewhere xs w 0 0x110000 fits 0x310000
          (t.units * 1024) (inr (omega arith)))) c.self.invariant.store.listed;
    })

pub returns : goal.returns
returns c =
    let xs = c.self.inside.region.bytes in let t = c.self.inside.table in let fits : 0 + 0x110000 ≤ length xs =
    omega (arith, c.self.invariant.store.whole) in (
      (
        refl,
        λ w.
            same_stored _ _ _ _ _ _ (lent_refit xs w 0 0x110000 fits) (lent_elsewhere xs w 0 0x110000 fits 0x110000
            0x200000 (inr (omega arith))) (ap (blocks_in t) (lent_elsewhere xs w 0 0x110000 fits 0x310000
            (t.units * 1024) (inr (omega arith))))
            ∙ ap (λ (s : Stored). record s { low = refit s.low w }) c.self.view_is,
      ),
      record {
        writes_back = tt;
        value = c.part_mut.ensures.value ∙ ap (λ (s : Stored). s.low) c.self.view_is;
        length = ap length c.part_mut.ensures.value ∙ part_length xs 0 0x110000 fits;
      },
    )
