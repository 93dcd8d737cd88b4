-- What holds of a table of blocks, as one comes and one goes.
use Rattle.std.proofs.Common.{◌≡◌, ℕ, ◌+◌, ◌^◌, ◌<◌, ◌≤◌, true, cond, ◌*◌, List, [], length, get_or, set, replicate, Option, Some, None, sym, ap, ◌∙◌, subst, inl, inr, ◌⊎◌, arith}
use Rattle.std.specs.Prelude.{count_by}
use Rattle.std.proofs.lemmas.Option.{none-some, same_Some}
use Rattle.std.proofs.lemmas.List.{length-set, get_or-set_same, get_or-set_other}
use Rattle.std.proofs.lemmas.List.Folds.{sum_by-replicate}
use Rattle.dm_pool.specs.declared.extent.Extent.{Extent}
use Rattle.dm_pool.specs.Gaps.{is_clear}
use Rattle.dm_pool.specs.Blocks.{Apart, IsLaid, IsPool}
use Rattle.dm_pool.specs.FreeList.{AreBased}
use Rattle.dm_pool.specs.inner.Order.{has_units, IsOrder}
use Rattle.dm_pool.proofs.Blocks.{same_or_not, no_place, clear_apart}

none : (n : ℕ) → 0 ≡ count_by has_units (replicate n None)
none n = sym (sum_by-replicate (λ (o : Option Extent). cond (has_units o) 1 0) n None ∙ omega arith)

-- a table with no block
pub no_order : (n : ℕ) → IsOrder (replicate n None) []
no_order n = record {
  live = λ p h. absurd (omega (arith, h));
  rising = λ p q b d h in' at to. absurd (omega (arith, in'));
  whole = λ i b e pos. absurd (none-some b (sym (no_place n i) ∙ e));
  counted = none n;
  small = λ p h. absurd (omega (arith, h));
}

pub none_laid : (units n : ℕ) → length (replicate {A = Option Extent} n None) ≡ 576 → units < 2 ^ 31 →
    IsLaid units (replicate n None)
none_laid units n c s = record {
  count = c;
  small = s;
  within = λ i b e. absurd (none-some b (sym (no_place n i) ∙ e));
  apart = λ i j b d ne e f. absurd (none-some b (sym (no_place n i) ∙ e));
}

pub none_based : (n : ℕ) → AreBased (replicate n None)
none_based n i b e z = absurd (none-some b (sym (no_place n i) ∙ e))

at_set : (ps : List (Option Extent)) (k i : ℕ) (o : Option Extent) (b : Extent) → k < length ps →
    get_or (set ps k o) i None ≡ Some b → (o ≡ Some b) × (i ≡ k) ⊎ (get_or ps i None ≡ Some b) × ¬ (i ≡ k)
at_set ps k i o b lt e = elim (same_or_not i k) [
  | inl s ↦ inl (sym (ap (λ j. get_or (set ps k o) j None) s ∙ get_or-set_same ps k o None lt) ∙ e, s)
  | inr ne ↦ inr (sym (get_or-set_other ps k i o None ne) ∙ e, ne)
]

turned : (d e : Extent) → Apart d e → Apart e d
turned d e a = elim a [ inl h ↦ inr h | inr h ↦ inl h ]

pub come_laid : (n : ℕ) (ps : List (Option Extent)) (k : ℕ) (b : Extent) → k < 576 → IsLaid n ps →
    b.base + b.units ≤ n → is_clear ps b.base b.units ≡ true → IsLaid n (set ps k (Some b))
come_laid n ps k b lt is inside clear =
    let short : k < length ps = omega (arith, lt, is.count) in
    let far : (i : ℕ) (d : Extent) → get_or ps i None ≡ Some d → Apart d b =
    λ i d e. clear_apart ps b.base b.units clear i d e in
    record {
      count = length-set ps k (Some b) ∙ is.count;
      small = is.small;
      within = λ i d e. elim (at_set ps k i (Some b) d short e) [
        | inl s ↦
            subst (λ (z : Extent). z.base + z.units ≤ n) (same_Some b d s.0) inside
        | inr o ↦ is.within i d o.0
      ];
      apart = λ i j d c ne e f. elim (at_set ps k i (Some b) d short e) [
        | inl s ↦ elim (at_set ps k j (Some b) c short f) [
          | inl t ↦ absurd (ne (s.1 ∙ sym t.1))
          | inr o ↦ subst (λ (z : Extent). Apart z c) (same_Some b d s.0) (turned c b (far j c o.0))
        ]
        | inr o ↦ elim (at_set ps k j (Some b) c short f) [
          | inl t ↦ subst (λ (z : Extent). Apart d z) (same_Some b c t.0) (far i d o.0)
          | inr p ↦ is.apart i j d c ne o.0 p.0
        ]
      ];
    }

pub go_laid : (n : ℕ) (ps : List (Option Extent)) (k : ℕ) → k < 576 → IsLaid n ps → IsLaid n (set ps k None)
go_laid n ps k lt is =
    let short : k < length ps = omega (arith, lt, is.count) in
    let old : (i : ℕ) (d : Extent) → get_or (set ps k None) i None ≡ Some d → get_or ps i None ≡ Some d =
    λ i d e. elim (at_set ps k i None d short e) [ inl s ↦ absurd (none-some d s.0) | inr o ↦ o.0 ] in
    record {
      count = length-set ps k None ∙ is.count;
      small = is.small;
      within = λ i d e. is.within i d (old i d e);
      apart = λ i j d c ne e f. is.apart i j d c ne (old i d e) (old j c f);
    }

pub pool_of : (n : ℕ) (ps : List (Option Extent)) (xs : List ℕ) → IsLaid n ps → length xs ≡ n * 1024 → IsPool n ps xs
pool_of n ps xs is e = record { laid = is; whole = e }
