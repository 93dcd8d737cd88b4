-- The blocks of the order, met from the highest down.
use Rattle.std.proofs.Common.{◌≡◌, ℕ, ◌+◌, ◌-◌, ◌<◌, ◌≤◌, List, length, get_or, Option, None, refl, sym, ap, ◌∙◌, subst, inl, inr, arith}
use Rattle.std.proofs.lemmas.Bool.{cases_lt, cases_order}
use Rattle.std.proofs.lemmas.Option.{same_Some}
use Rattle.dm_pool.specs.declared.extent.Extent.{Extent}
use Rattle.dm_pool.specs.Blocks.{IsLaid}
use Rattle.dm_pool.specs.FreeList.{AreBased}
use Rattle.dm_pool.specs.inner.FreeList.{IsBelow}
use Rattle.dm_pool.specs.inner.Order.{IsNth, IsOrder, IsCut}
use Rattle.dm_pool.proofs.WrittenGaps.{free_above}

-- all blocks, below the end of the pool
pub cut_all : (units : ℕ) (places : List (Option Extent)) (order : List ℕ) → IsLaid units places →
    IsCut places order (length order) units
cut_all units places order laid = record {
  within = omega arith;
  lower = λ p b h at. laid.within (get_or order p 0) b at;
  upper = λ p b h in' at. absurd (omega (arith, h, in'));
}

-- no block: each of those there begins at `end` or above
pub none_below : (end : ℕ) (places : List (Option Extent)) (order : List ℕ) → AreBased places → IsOrder places order →
    IsCut places order 0 end → IsBelow places end (record { base = 0; units = 0 })
none_below end places order based is cut = record {
  edge = omega arith;
  free = free_above places (0 + 0) end (omega arith) (λ i b e lt. elim (cases_lt 0 b.units) [
    | inl pos ↦ let q = is.whole i b e pos in let up =
        cut.upper q.0 b (omega arith) q.1 (ap (λ j. get_or places j None) q.2 ∙ e) in absurd (omega (arith, up, lt))
    | inr none ↦ let z : b.units ≡ 0 = omega (arith, none) in omega (arith, based i b e z, z)
  ]);
  there = inl (refl, refl);
}

pub cut_none : (places : List (Option Extent)) (order : List ℕ) (end : ℕ) → IsCut places order 0 end →
    IsCut places order (0 - 1) 0
cut_none places order end cut = record {
  within = omega arith;
  lower = λ p b h at. absurd (omega (arith, h));
  upper = λ p b h in' at. omega arith;
}

module _ (end rest : ℕ) (places : List (Option Extent)) (order : List ℕ) (top : Extent) (based : AreBased places)
    (is : IsOrder places order) (some : 0 < rest) (cut : IsCut places order rest end)
    (at : IsNth places order (rest - 1) top) where
  last : rest - 1 < length order
  last = omega (arith, some, cut.within)

  some_units : 0 < top.units
  some_units = let l = is.live (rest - 1) last in subst (λ (b : Extent). 0 < b.units) (same_Some l.0 top (sym l.1
      ∙ at)) l.2

  -- a block of the order that is not above ends where the top one does, or below
  under : (p : ℕ) (b : Extent) → p < rest → IsNth places order p b → b.base + b.units ≤ top.base + top.units
  under p b h to = elim (cases_lt p (rest - 1)) [
    | inl x ↦ let r = is.rising p (rest - 1) b top x last to at in omega (arith, r)
    | inr x ↦
        let e : p ≡ rest - 1 = omega (arith, h, x) in
        let same : b ≡ top = same_Some b top (sym to ∙ ap (λ j. get_or places (get_or order j 0) None) e ∙ at) in
        omega (arith, ap (λ (z : Extent). z.base) same, ap (λ (z : Extent). z.units) same)
  ]

  pub top_below : IsBelow places end top
  top_below = record {
    edge = cut.lower (rest - 1) top (omega (arith, some)) at;
    free = free_above places (top.base + top.units) end (cut.lower (rest - 1) top (omega (arith, some)) at)
        (λ i b e lt. elim (cases_lt 0 b.units) [
          | inl pos ↦
              let q = is.whole i b e pos in let to = ap (λ j. get_or places j None) q.2 ∙ e in
              elim (cases_lt q.0 rest) [
                | inl x ↦ under q.0 b x to
                | inr x ↦ let up = cut.upper q.0 b x q.1 to in
                    absurd (omega (arith, up, lt))
              ]
          | inr none ↦ let z : b.units ≡ 0 = omega (arith, none) in omega (arith, based i b e z, z)
        ]);
    there = inr (some_units, (get_or order (rest - 1) 0, at));
  }

  pub cut_below : IsCut places order (rest - 1) top.base
  cut_below = record {
    within = omega (arith, cut.within);
    lower = λ p b h to. is.rising p (rest - 1) b top h last to at;
    upper = λ p b h in' to. elim (cases_order p (rest - 1)) [
      | inl e ↦ let same : b ≡ top = same_Some b top (sym to ∙ ap (λ j. get_or places (get_or order j 0) None) e
          ∙ at) in omega (arith, ap (λ (z : Extent). z.base) same)
      | inr c ↦ elim c [
        | inl x ↦ absurd (omega (arith, h, x))
        | inr x ↦ let r = is.rising (rest - 1) p top b x in' at to in omega (arith, r)
      ]
    ];
  }

-- the highest block below the unit `end` begins below it
pub falls : (places : List (Option Extent)) (end : ℕ) (top : Extent) → 0 < end → IsBelow places end top → top.base < end
falls places end top pos b = elim b.there [
  | inl none ↦ omega (arith, none.0, pos)
  | inr some ↦
      omega (arith, some.0, b.edge)
]
