-- The gaps of a pool are those that its definition counts, and no others.
use Rattle.std.proofs.Common.{◌≡◌, ℕ, zero, suc, ◌+◌, ◌<◌, ◌≤◌, Bool, true, false, List, [], ◌∷◌, Option, refl, sym, ap, ◌∙◌, subst, inl, inr, arith}
use Rattle.std.specs.Prelude.{if◌then◌else◌}
use Rattle.std.proofs.Math.Bool.{true≢false}
use Rattle.std.proofs.lemmas.Bool.{cases_lt, cases_eq, eq-eqb, ne_eqb}
use Rattle.dm_pool.specs.declared.extent.Extent.{Extent}
use Rattle.dm_pool.specs.Gaps.{Gap, is_clear, with_unit, gaps_from, gaps}
use Rattle.dm_pool.specs.inner.Gaps.{IsCovered, AreGaps}
use Rattle.dm_pool.specs.FreeList.{AreBased}
use Rattle.dm_pool.proofs.Gaps.{clear, clear_part, before, after}
use Rattle.dm_pool.proofs.Blocks.{clear_apart}
use Rattle.dm_pool.proofs.WrittenGaps.{lowered}

-- a clear unit before clear units
clear_more : (bs : List (Option Extent)) (k u : ℕ) → AreBased bs → is_clear bs k 1 ≡ true →
    is_clear bs (suc k) u ≡ true → is_clear bs k (suc u) ≡ true
clear_more bs k u based one rest = clear bs k (suc u) (λ i b lt e. elim (clear_apart bs k 1 one i b e) [
  | inl h ↦ after b k (suc u) h
  | inr h ↦ elim (clear_apart bs (suc k) u rest i b e) [
    | inl g ↦ elim (cases_lt 0 b.units) [
      | inl pos ↦ absurd (omega (arith, h, g, pos))
      | inr none ↦ let z : b.units ≡ 0 = omega (arith, none) in absurd (omega (arith, h, based i b e z))
    ]
    | inr g ↦ before b k (suc u) (omega (arith, g))
  ]
])

both : (b : Bool) → b ≡ true → b ≡ false → ⊥
both b t f = true≢false (sym t ∙ f)

grown : (bs : List (Option Extent)) (n k : ℕ) (gs : List Gap) (b : Bool) → AreBased bs → k < n → is_clear bs k 1 ≡ b →
    AreGaps bs n (suc k) gs → AreGaps bs n k (with_unit b k gs)
grown bs n k gs false based lt e are = lowered bs n (suc k) k gs (λ j lo hi. let same : k ≡ j = omega (arith, lo, hi) in
    subst (IsCovered bs) same e) (omega arith) are
grown bs n k [] true based lt e are = (
  omega arith,
  (λ j lo hi. absurd (omega (arith, lo, hi))),
  omega arith,
  e,
  omega (arith, lt),
  (λ h. let next : suc k ≡ k + 1 = omega arith in
      subst (IsCovered bs) next (are (suc k) (omega arith) (omega (arith, h)))),
  λ j lo hi. are j (omega (arith, lo)) hi,
)
grown bs n k (g ∷ gs) true based lt e are = elim (cases_eq g.low (suc k)) [
  | inl s ↦
      let end : g.low + g.size ≡ k + suc g.size = omega (arith, s) in
      let joined = clear_more bs k g.size based e (subst (λ l. is_clear bs l g.size ≡ true) s are.3) in
      let some = are.2 in let room = are.4 in
      let made : AreGaps bs n k (record { low = k; size = suc g.size } ∷ gs) = (
        omega arith,
        (λ j lo hi. absurd (omega (arith, lo, hi))),
        omega arith,
        joined,
        omega (arith, end, room),
        (λ h. subst (IsCovered bs) end (are.5 (omega (arith, h, end)))),
        subst (λ l. AreGaps bs n l gs) end are.6,
      ) in
      subst (λ t. AreGaps bs n k (if t then record { low = k; size = suc g.size } ∷ gs else record { low = k; size = 1 }
      ∷ g ∷ gs)) (sym (eq-eqb g.low (suc k) s)) made
  | inr ne ↦
      let low = are.0 in
      let gap : suc k < g.low = elim (cases_lt (suc k) g.low) [
        | inl h ↦ h
        | inr h ↦
            absurd (ne (omega (arith, low, h)))
      ] in
      let next : suc k ≡ k + 1 = omega arith in
      let made : AreGaps bs n k (record { low = k; size = 1 } ∷ g ∷ gs) = (
        omega arith,
        (λ j lo hi. absurd (omega (arith, lo, hi))),
        omega arith,
        e,
        omega (arith, lt),
        (λ h. subst (IsCovered bs) next (are.1 (suc k) (omega arith) gap)),
        subst (λ l. AreGaps bs n l (g ∷ gs)) next are,
      ) in
      subst (λ t. AreGaps bs n k (if t then record { low = k; size = suc g.size } ∷ gs else record { low = k; size = 1 }
      ∷ g ∷ gs)) (sym (ne_eqb g.low (suc k) ne)) made
]

gaps_are_from : (bs : List (Option Extent)) (n m k : ℕ) → AreBased bs → k + m ≡ n → AreGaps bs n k (gaps_from bs m k)
unfolding gaps_from
gaps_are_from bs n zero k based e = λ j lo hi. absurd (omega (arith, lo, hi, e))
gaps_are_from bs n (suc m) k based e = grown bs n k (gaps_from bs m (suc k)) (is_clear bs k 1) based (omega (
  arith,
  e,
)) refl (gaps_are_from bs n m (suc k) based (omega (arith, e)))

pub gaps_are : (bs : List (Option Extent)) (n : ℕ) → AreBased bs → AreGaps bs n 0 (gaps bs n)
gaps_are bs n based = gaps_are_from bs n n 0 based (omega arith)

-- clear units, one at least, are not covered where they begin
not_covered : (bs : List (Option Extent)) (p u j : ℕ) → is_clear bs p u ≡ true → p ≤ j → j < p + u → IsCovered bs j → ⊥
not_covered bs p u j h lo hi c = both (is_clear bs j 1) (clear_part bs p u j 1 h lo (omega (arith, hi))) c

pub gaps_are_one : (bs : List (Option Extent)) (n k : ℕ) (gs hs : List Gap) → AreGaps bs n k gs → AreGaps bs n k hs →
    gs ≡ hs
gaps_are_one bs n k [] [] a b = refl
gaps_are_one bs n k [] (h ∷ hs) a b = let some = b.2 in let room = b.4 in
    absurd (not_covered bs h.low h.size h.low b.3 (omega arith) (omega (arith, some)) (a h.low b.0 (omega (
      arith,
      some,
      room,
    ))))
gaps_are_one bs n k (g ∷ gs) [] a b = let some = a.2 in let room = a.4 in
    absurd (not_covered bs g.low g.size g.low a.3 (omega arith) (omega (arith, some)) (b g.low a.0 (omega (
      arith,
      some,
      room,
    ))))
gaps_are_one bs n k (g ∷ gs) (h ∷ hs) a b =
    let sa = a.2 in let sb = b.2 in let ra = a.4 in let rb = b.4 in
    let low : g.low ≡ h.low = elim (cases_lt g.low h.low) [
      | inl x ↦ absurd (not_covered bs g.low g.size g.low a.3 (omega arith) (omega (arith, sa)) (b.1 g.low a.0 x))
      | inr x ↦ elim (cases_lt h.low g.low) [
        | inl y ↦ absurd (not_covered bs h.low h.size h.low b.3 (omega arith)
            (omega (arith, sb)) (a.1 h.low b.0 y))
        | inr y ↦ omega (arith, x, y)
      ]
    ] in
    let size : g.size ≡ h.size = elim (cases_lt g.size h.size) [
      | inl x ↦ absurd (not_covered bs h.low h.size (g.low + g.size) b.3 (omega (arith, low)) (omega (
        arith,
        low,
        x,
      )) (a.5 (omega (arith, low, x, rb))))
      | inr x ↦ elim (cases_lt h.size g.size) [
        | inl y ↦
            absurd (not_covered bs g.low g.size (h.low + h.size) a.3 (omega (arith, low)) (omega (
              arith,
              low,
              y,
            )) (b.5 (omega (arith, low, y, ra))))
        | inr y ↦ omega (arith, x, y)
      ]
    ] in
    let end : h.low + h.size ≡ g.low + g.size = omega (arith, low, size) in
    let tail = gaps_are_one bs n (g.low + g.size) gs hs a.6 (subst (λ l. AreGaps bs n l hs) end b.6) in
    ap (λ l. record { low = l; size = g.size } ∷ gs) low ∙ ap (λ s. record { low = h.low; size = s } ∷ gs) size
    ∙ ap (λ l. h ∷ l) tail
