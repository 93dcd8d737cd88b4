use Rattle.std.proofs.Common.{◌≡◌, ◌+◌, ◌*◌, ◌≤◌, take, length, refl, sym, ◌∙◌, ap, inl, inr, subst, arith}
use Rattle.dm_region.specs.Holes.{Holed}
use Rattle.dm_region.proofs.Parts.{part_in}
use Rattle.dm_region.proofs.Written.{part_length}
use Rattle.dm_pool.specs.Stored.{Stored, refit}
use Rattle.dm_pool.specs.inner.Order.{blocks_in}
use Rattle.dm_pool.specs.inner.Stored.{IsKept, IsListed, stored}
use Rattle.dm_pool.proofs.Stored.{up_kept, with_kept, lent, lent_length, lent_elsewhere, front_lent, same_stored}
use Rattle.dm_pool.proofs.store.Store.scratch_mut.Goals as goal

pub part_mut-requires : goal.part_mut-requires
part_mut-requires c =
    let s = c.self.inside in let k = c.self.invariant in (
      omega (arith, c.requires, ap (λ (h : Holed). length h.bytes) c.fill_up.ensures, k.store.whole),
      inl (omega (arith, ap (λ (h : Holed). h.from) c.fill_up.ensures)),
    )

pub invariant_of-self-lent : goal.invariant_of-self-lent
invariant_of-self-lent c = λ w.
    let s = c.self.inside in let t = s.table in let len = c.args.len in let h = c.fill_up.new.self in let xs =
    h.bytes in
    let k : IsKept h t s.in_use = subst (λ (r : Holed). IsKept r t s.in_use) (sym c.fill_up.ensures)
    (up_kept s.region t s.in_use (0x110000 + len) (omega (arith, c.requires)) c.self.invariant) in
    let fits : 0x110000 + len ≤ length xs = omega (arith, c.requires, k.store.whole) in
    with_kept h t t s.in_use (lent xs w 0x110000 len fits) k (record {
      whole = lent_length xs w 0x110000 len fits ∙ k.store.whole;
      listed = subst (IsListed s.in_use t) (sym (lent_elsewhere xs w 0x110000 len fits 0x310000 (t.units * 1024)
          (inr (omega (arith, c.requires))))) k.store.listed;
    })

pub returns : goal.returns
returns c =
    let s = c.self.inside in let t = s.table in let len = c.args.len in let h = c.fill_up.new.self in let xs =
    h.bytes in
    let long : length xs ≡ 0x310000 + t.units * 1024 = ap (λ (r : Holed). length r.bytes) c.fill_up.ensures
    ∙ c.self.invariant.store.whole in
    let fits : 0x110000 + len ≤ length xs = omega (arith, c.requires, long) in
    let is = ap (λ (r : Holed). stored r.bytes t) c.fill_up.ensures ∙ c.self.view_is in (
      (
        refl,
        λ w.
            same_stored _ _ _ _ _ _ (lent_elsewhere xs w 0x110000 len fits 0 0x110000 (inl (omega arith)))
            (front_lent xs w 0x110000 0x200000 len c.requires (omega (arith, long)))
            (ap (blocks_in t) (lent_elsewhere xs w 0x110000 len fits 0x310000 (t.units * 1024)
            (inr (omega (arith, c.requires)))))
            ∙ ap (λ (v : Stored). record v { scratch = refit v.scratch (take len w) }) is,
      ),
      record {
        writes_back = tt;
        value = c.part_mut.ensures.value ∙ sym (part_in xs 0x110000 0x200000 0 len (omega (arith, c.requires)))
            ∙ ap (λ (v : Stored). take len v.scratch) is;
        length = ap length c.part_mut.ensures.value ∙ part_length xs 0x110000 len fits;
      },
    )
