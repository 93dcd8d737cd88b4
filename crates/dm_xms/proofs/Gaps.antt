-- The gaps of upper memory are those between its rising blocks.
use Rattle.std.proofs.Common.{◌≡◌, ℕ, zero, suc, ◌+◌, ◌-◌, ◌<◌, ◌≤◌, ◌⊎◌, inl, inr, true, false, List, [], ◌∷◌, Option, Some, None, length, get_or, refl, sym, ap, subst, arith}
use Rattle.std.specs.Prelude.{if◌then◌else◌, slice_index_or}
use Rattle.std.proofs.lemmas.Option.{none-some, same_Some}
use Rattle.std.proofs.lemmas.Bool.{cases_lt, cases_eq, eq-eqb, ne_eqb}
use Rattle.dm_pool.specs.declared.extent.Extent.{Extent}
use Rattle.dm_pool.specs.Gaps.{Gap, overlaps, is_clear, first_fit, gaps, lowest}
use Rattle.dm_pool.specs.inner.Gaps.{AreGaps, IsCovered}
use Rattle.dm_pool.specs.FreeList.{AreBased}
use Rattle.dm_pool.proofs.Gaps.{hits, before, after, covered, clear, fit_is_lowest}
use Rattle.dm_pool.proofs.WrittenGaps.{lowered}
use Rattle.dm_pool.proofs.Maximal.{gaps_are, gaps_are_one}
use Rattle.dm_xms.specs.declared.tables.Upper.{Upper}
use Rattle.dm_xms.specs.inner.Tables.{Rise}
use Rattle.dm_xms.specs.Uppers.{extents_of}
use Rattle.dm_xms.specs.inner.Walks.{with_gap, gaps_between}

-- ---- where rising blocks lie

abbrev low_of : Upper → ℕ
low_of u = u.segment - 0xD000

abbrev end_of : Upper → ℕ
end_of u = low_of u + u.paragraphs

abbrev the_place : Upper → Extent
the_place u = record { base = low_of u; units = u.paragraphs }

-- the block is one of them
abbrev IsIn : Extent → List Upper → Type 0
IsIn b [] = ⊥
IsIn b (u ∷ us) = (b ≡ the_place u) ⊎ IsIn b us

rises : (from : ℕ) (us : List Upper) (b : Extent) → 0xD000 ≤ from → Rise from us → IsIn b us →
    (from - 0xD000 ≤ b.base) × (0 < b.units)
rises from [] b d r i = absurd i
rises from (u ∷ us) b d r (inl e) =
    let low : b.base ≡ low_of u = ap (λ (p : Extent). p.base) e in
    let size : b.units ≡ u.paragraphs = ap (λ (p : Extent). p.units) e in
    (omega (arith, low, r.0, d), omega (arith, size, r.1))
rises from (u ∷ us) b d r (inr i) =
    let x = rises (u.segment + u.paragraphs) us b (omega (arith, r.0, d)) r.2 i in
    (omega (arith, x.0, r.0, d), x.1)

pub rises_within : (from : ℕ) (us : List Upper) → Rise from us → from ≤ 0xE000
rises_within from [] r = r
rises_within from (u ∷ us) r = let x = rises_within (u.segment + u.paragraphs) us r.2 in omega (arith, x, r.0)

-- where the first block ends
pub first_ends : (from : ℕ) (us : List Upper) → 1 ≤ length us → Rise from us → let first : Upper =
    slice_index_or us 0 (record { segment = 0; paragraphs = 0 }) in first.segment + first.paragraphs ≤ 0xE000
first_ends from [] h r = absurd (omega (arith, h))
first_ends from (u ∷ us) h r = rises_within (u.segment + u.paragraphs) us r.2

-- each block of the list ends at the paragraph k or below, or is one of those that are still to come
abbrev Behind : List (Option Extent) → ℕ → List Upper → Type 0
Behind bs k us = (i : ℕ) (b : Extent) → get_or bs i None ≡ Some b → (b.base + b.units ≤ k) ⊎ IsIn b us

-- those that are still to come are in the list
abbrev Come : List (Option Extent) → List Upper → Type 0
Come bs us = (b : Extent) → IsIn b us → (i : ℕ) × (get_or bs i None ≡ Some b)

-- ---- the walk

-- the paragraphs from k up to l are free, if no block ends behind k but those that begin at l or behind it
free_up_to : (bs : List (Option Extent)) (k l : ℕ) → k ≤ l → ((i : ℕ) (b : Extent) → get_or bs i None ≡ Some b →
    (b.base + b.units ≤ k) ⊎ (l ≤ b.base)) → is_clear bs k (l - k) ≡ true
free_up_to bs k l h each = clear bs k (l - k) by
  where
    away : (b : Extent) → (b.base + b.units ≤ k) ⊎ (l ≤ b.base) → overlaps b k (l - k) ≡ false
    away b (inl p) = after b k (l - k) p
    away b (inr p) = before b k (l - k) (omega (arith, h, p))

    by : (i : ℕ) (b : Extent) → i < length bs → get_or bs i None ≡ Some b → overlaps b k (l - k) ≡ false
    by i b lt at = away b (each i b at)

-- a gap in front of those behind it
in_front : (bs : List (Option Extent)) (n k l : ℕ) (gs : List Gap) → k < l → l ≤ n → is_clear bs k (l - k) ≡ true →
    (l < n → IsCovered bs l) → AreGaps bs n l gs → AreGaps bs n k (record { low = k; size = l - k } ∷ gs)
in_front bs n k l gs h m free cover are =
    let e : l ≡ k + (l - k) = omega (arith, h) in (
      omega arith,
      λ j p q. absurd (omega (arith, p, q)),
      omega (arith, h),
      free,
      omega (arith, h, m),
      subst (λ z. z < n → IsCovered bs z) e cover,
      subst (λ z. AreGaps bs n z gs) e are,
    )

front : (bs : List (Option Extent)) (n k l : ℕ) (gs : List Gap) → k ≤ l → l ≤ n → is_clear bs k (l - k) ≡ true →
    (l < n → IsCovered bs l) → AreGaps bs n l gs → AreGaps bs n k (with_gap k l gs)
front bs n k l gs h m free cover are = elim (cases_eq k l) [
  | inl e ↦
      subst (λ t. AreGaps bs n k (if t then gs else record { low = k; size = l - k } ∷ gs)) (sym (eq-eqb k l e))
      (subst (λ z. AreGaps bs n z gs) (sym e) are)
  | inr ne ↦
      let lt : k < l = elim (cases_lt k l) [ inl p ↦ p | inr p ↦ absurd (ne (omega (arith, h, p))) ] in
      subst (λ t. AreGaps bs n k (if t then gs else record { low = k; size = l - k } ∷ gs)) (sym (ne_eqb k l ne))
      (in_front bs n k l gs lt m free cover are)
]

-- the walk from the paragraph k on, at which all blocks end that were passed
walked : (bs : List (Option Extent)) (from : ℕ) (us : List Upper) → 0xD000 ≤ from → Rise from us →
    Behind bs (from - 0xD000) us → Come bs us → AreGaps bs 0x1000 (from - 0xD000) (gaps_between (from - 0xD000) us)
walked bs from [] d r behind come =
    let k : ℕ = from - 0xD000 in
    let le : k ≤ 0x1000 = omega (arith, r, d) in
    let none : AreGaps bs 0x1000 0x1000 [] = λ j p q. absurd (omega (arith, p, q)) in
    let each : (i : ℕ) (b : Extent) → get_or bs i None ≡ Some b → (b.base + b.units ≤ k) ⊎ (0x1000 ≤ b.base) =
    λ i b at. elim (behind i b at) [ inl p ↦ inl p | inr x ↦ absurd x ] in
    front bs 0x1000 k 0x1000 [] le (omega arith) (free_up_to bs k 0x1000 le each) (λ q. absurd (omega (arith, q))) none
walked bs from (u ∷ us) d r behind come =
    let k : ℕ = from - 0xD000 in
    let l : ℕ = low_of u in
    let next : ℕ = u.segment + u.paragraphs in
    let top : next ≤ 0xE000 = rises_within next us r.2 in
    let dn : 0xD000 ≤ next = omega (arith, r.0, d) in
    let same : next - 0xD000 ≡ l + u.paragraphs = omega (arith, r.0, d) in
    let le : k ≤ l = omega (arith, r.0, d) in
    let lm : l ≤ 0x1000 = omega (arith, r.1, top, r.0, d) in
    let here = come (the_place u) (inl refl) in
    let over : (j : ℕ) → l ≤ j → j < l + u.paragraphs → IsCovered bs j =
    λ j p q. covered bs here.0 (the_place u) j 1 here.1 (hits (the_place u) j 1 (omega (arith, p)) q) in
    let passed : Behind bs (next - 0xD000) us = λ i b at. elim (behind i b at) [
      | inl p ↦ inl (omega (arith, p, le, same))
      | inr x ↦ elim x [
        | inl e ↦ inl (let z : b.base + b.units ≡ l + u.paragraphs = ap (λ (v : Extent). v.base + v.units) e in
            omega (arith, z, same))
        | inr y ↦ inr y
      ]
    ] in
    let rest : AreGaps bs 0x1000 (next - 0xD000) (gaps_between (next - 0xD000) us) =
    walked bs next us dn r.2 passed (λ b x. come b (inr x)) in
    let moved : AreGaps bs 0x1000 (l + u.paragraphs) (gaps_between (l + u.paragraphs) us) =
    subst (λ z. AreGaps bs 0x1000 z (gaps_between z us)) same rest in
    let low : AreGaps bs 0x1000 l (gaps_between (l + u.paragraphs) us) =
    lowered bs 0x1000 (l + u.paragraphs) l (gaps_between (l + u.paragraphs) us) over (omega arith) moved in
    let each : (i : ℕ) (b : Extent) → get_or bs i None ≡ Some b → (b.base + b.units ≤ k) ⊎ (l ≤ b.base) =
    λ i b at. elim (behind i b at) [
      | inl p ↦ inl p
      | inr x ↦ elim x [
        | inl e ↦ inr (let z : b.base ≡ l = ap (λ (v : Extent). v.base) e in omega (arith, z))
        | inr y ↦ inr (let z = rises next us b dn r.2 y in omega (arith, z.0, same))
      ]
    ] in
    front bs 0x1000 k l (gaps_between (l + u.paragraphs) us) le lm (free_up_to bs k l le each)
    (λ q. over l (omega arith) (omega (arith, r.1))) low

-- ---- all of the list

is_in_at : (us : List Upper) (i : ℕ) (b : Extent) → get_or (extents_of us) i None ≡ Some b → IsIn b us
is_in_at [] i b e = absurd (none-some b e)
is_in_at (u ∷ us) zero b e = inl (sym (same_Some (the_place u) b e))
is_in_at (u ∷ us) (suc i) b e = inr (is_in_at us i b e)

at_of_in : (us : List Upper) (b : Extent) → IsIn b us → (i : ℕ) × (get_or (extents_of us) i None ≡ Some b)
at_of_in [] b x = absurd x
at_of_in (u ∷ us) b (inl e) = (0, ap Some (sym e))
at_of_in (u ∷ us) b (inr x) = let y = at_of_in us b x in (suc y.0, y.1)

based : (us : List Upper) → Rise 0xD000 us → AreBased (extents_of us)
based us r i b e none = let x = rises 0xD000 us b (omega arith) r (is_in_at us i b e) in
    absurd (omega (arith, x.1, none))

pub are_between : (us : List Upper) → Rise 0xD000 us → AreGaps (extents_of us) 0x1000 0 (gaps_between 0 us)
are_between us r = walked (extents_of us) 0xD000 us (omega arith) r (λ i b e. inr (is_in_at us i b e)) (at_of_in us)

pub gaps_are_between : (us : List Upper) → Rise 0xD000 us → gaps_between 0 us ≡ gaps (extents_of us) 0x1000
gaps_are_between us r = gaps_are_one (extents_of us) 0x1000 0 (gaps_between 0 us) (gaps (extents_of us) 0x1000)
    (are_between us r) (gaps_are (extents_of us) 0x1000 (based us r))

pub first_fit_is_lowest : (us : List Upper) (n : ℕ) → 0 < n → Rise 0xD000 us → first_fit (gaps_between 0 us) n
    ≡ lowest (extents_of us) 0x1000 n
first_fit_is_lowest us n pos r = fit_is_lowest (extents_of us) 0x1000 n (gaps_between 0 us) pos (are_between us r)
