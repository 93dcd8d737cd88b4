-- A store as it is made: zeros, and no block. Its gaps are one, the whole pool.
use Rattle.std.proofs.Common.{◌≡◌, ◌++◌, length, true, ◌/◌, ℕ, zero, suc, ◌+◌, ◌-◌, ◌≤◌, List, [], ◌∷◌, take, drop, replicate, Option, None, refl, sym, ap, ◌∙◌, arith}
use Rattle.std.proofs.lemmas.List.{take-replicate}
use Rattle.std.proofs.Math.Nat.{zero-div}
use Rattle.std.proofs.lemmas.List.Sums.{sum_by-cons}
use Rattle.std.proofs.lemmas.Option.{none-some}
use Rattle.dm_region.specs.Parts.{part}
use Rattle.dm_region.proofs.Parts.{part_in}
use Rattle.dm_region.proofs.Written.{part_length, part_more}
use Rattle.dm_pool.specs.declared.extent.Extent.{Extent}
use Rattle.dm_pool.specs.FreeList.{AreBased}
use Rattle.dm_pool.specs.Gaps.{Gap, is_clear, gaps, largest, free_units, count_fitting}
use Rattle.dm_pool.specs.inner.Gaps.{AreGaps}
use Rattle.dm_pool.proofs.Maximal.{gaps_are, gaps_are_one}
use Rattle.dm_pool.proofs.Stored.{none_placed}
use Rattle.dm_pool.specs.Blocks.{contents_of, no_blocks}
use Rattle.dm_pool.specs.inner.Order.{Layout, no_layout, blocks_in}
use Rattle.dm_pool.specs.Stored.{zeros_of}
use Rattle.dm_pool.specs.inner.Stored.{low_part, scratch_part}
use Rattle.dm_pool.proofs.Takes.{same_blocks}

drop_zeros : (P T : ℕ) → drop P (replicate {A = ℕ} T 0) ≡ replicate (T - P) 0
drop_zeros zero T = let e : T ≡ T - 0 = omega arith in ap (λ n. replicate n 0) e
drop_zeros (suc P) zero = let e : 0 ≡ 0 - suc P = omega arith in ap (λ n. replicate n 0) e
drop_zeros (suc P) (suc T) = drop_zeros P T ∙ (let e : T - P ≡ suc T - suc P = omega arith in ap (λ n. replicate n 0) e)

pub part_zeros : (T P N : ℕ) → P + N ≤ T → part (zeros_of T) P N ≡ zeros_of N
unfolding zeros_of
part_zeros T P N le = ap (take N) (drop_zeros P T) ∙ take-replicate N (T - P) 0 (omega (arith, le))

pub low_zeros : (T : ℕ) (xs : List ℕ) → xs ≡ zeros_of T → 0x110000 ≤ T → low_part xs ≡ zeros_of 0x110000
low_zeros T xs e le = ap low_part e ∙ part_zeros T 0 0x110000 (omega (arith, le))

pub scratch_zeros : (T : ℕ) (xs : List ℕ) → xs ≡ zeros_of T → 0x310000 ≤ T → scratch_part xs ≡ zeros_of 0x200000
scratch_zeros T xs e le = ap scratch_part e ∙ part_zeros T 0x110000 0x200000 (omega (arith, le))

none_content : (k : ℕ) (w : List ℕ) → contents_of (replicate k None) w ≡ replicate k []
none_content zero w = refl
none_content (suc k) w = ap (λ l. [] ∷ l) (none_content k w)

pub none_units : (n : ℕ) → (no_layout n).units ≡ n
unfolding no_layout
none_units n = refl

pub none_places : (n : ℕ) → (no_layout n).places ≡ replicate 576 None
unfolding no_layout
none_places n = refl

pub none_blocks : (n : ℕ) (l : Layout) (w : List ℕ) → l.units ≡ (no_layout n).units → l.places ≡ (no_layout n).places →
    blocks_in l w ≡ no_blocks n
unfolding no_layout no_blocks
none_blocks n l w u p = same_blocks l.units n l.places (replicate 576 None) (contents_of l.places w)
    (replicate 576 []) u p (ap (λ ps. contents_of ps w) p ∙ none_content 576 w)

all_clear : (k p u : ℕ) → is_clear (replicate k None) p u ≡ true
all_clear zero p u = refl
all_clear (suc k) p u = all_clear k p u

none_clear : (n p u : ℕ) → is_clear (no_layout n).places p u ≡ true
unfolding no_layout
none_clear n p u = all_clear 576 p u

pub none_based : (n : ℕ) → AreBased (no_layout n).places
none_based n i b at = absurd (none-some b (sym (none_placed n i) ∙ at))

-- the gaps of n units with no block
abbrev one_gap : ℕ → List Gap
one_gap zero = []
one_gap (suc n) = record { low = 0; size = suc n } ∷ []

one_gap_is : (n m : ℕ) → AreGaps (no_layout m).places n 0 (one_gap n)
one_gap_is zero m = λ j lo hi. absurd (omega (arith, hi))
one_gap_is (suc n) m = (
  omega arith,
  (λ j lo hi. absurd (omega (arith, hi))),
  omega arith,
  none_clear m 0 (suc n),
  omega arith,
  (λ h. absurd (omega (arith, h))),
  (λ j lo hi. absurd (omega (arith, lo, hi))),
)

fresh_gaps : (n : ℕ) (ps : List (Option Extent)) → ps ≡ (no_layout n).places → gaps ps n ≡ one_gap n
fresh_gaps n ps e =
    ap (λ (l : List (Option Extent)). gaps l n) e ∙ gaps_are_one (no_layout n).places n 0 (gaps (no_layout n).places n)
    (one_gap n) (gaps_are (no_layout n).places n (none_based n)) (one_gap_is n n)

one_largest : (n : ℕ) → largest (one_gap n) ≡ n
one_largest zero = refl
one_largest (suc n) = omega arith

one_free : (n : ℕ) → free_units (one_gap n) ≡ n
one_free zero = refl
one_free (suc n) = sum_by-cons (λ (g : Gap). g.size) (record { low = 0; size = suc n }) [] ∙ omega arith

one_fitting : (n u : ℕ) → count_fitting u (one_gap n) ≡ n / u
one_fitting zero u = sym (zero-div u)
one_fitting (suc n) u = sum_by-cons (λ (g : Gap). g.size / u) (record { low = 0; size = suc n }) [] ∙ omega arith

pub fresh_largest : (n : ℕ) (ps : List (Option Extent)) → ps ≡ (no_layout n).places → largest (gaps ps n) ≡ n
fresh_largest n ps e = ap largest (fresh_gaps n ps e) ∙ one_largest n

pub fresh_free_units : (n : ℕ) (ps : List (Option Extent)) → ps ≡ (no_layout n).places → free_units (gaps ps n) ≡ n
fresh_free_units n ps e = ap free_units (fresh_gaps n ps e) ∙ one_free n

pub fresh_count_fitting : (n u : ℕ) (ps : List (Option Extent)) → ps ≡ (no_layout n).places →
    count_fitting u (gaps ps n) ≡ n / u
fresh_count_fitting n u ps e = ap (count_fitting u) (fresh_gaps n ps e) ∙ one_fitting n u

part_zeros_in : (xs : List ℕ) (n m k : ℕ) → k ≤ m → part xs n m ≡ replicate m 0 → part xs n k ≡ zeros_of k
unfolding zeros_of
part_zeros_in xs n m k le e = let here : n + 0 ≡ n = omega arith in
    ap (λ i. part xs i k) (sym here) ∙ sym (part_in xs n m 0 k (omega (arith, le))) ∙ ap (take k) e
    ∙ take-replicate k m 0 le

-- the scratch bytes before the hole, and the zeros behind
pub scratch_split : (xs : List ℕ) (n to : ℕ) → 0x110000 ≤ n → n ≤ 0x310000 → 0x310000 ≤ to → 0x310000 ≤ length xs →
    part xs n (to - n) ≡ replicate (to - n) 0
    → scratch_part xs ≡ part xs 0x110000 (n - 0x110000)
    ++ zeros_of (0x200000 - length (part xs 0x110000 (n - 0x110000)))
scratch_split xs n to low front back long e =
    let a : ℕ = n - 0x110000 in let b : ℕ = 0x310000 - n in
    let all : 0x200000 ≡ a + b = omega (arith, low, front) in
    let next : 0x110000 + a ≡ n = omega (arith, low) in
    let left : b ≡ 0x200000 - length (part xs 0x110000 a) =
    omega (arith, part_length xs 0x110000 a (omega (arith, low, front, long)), low, front) in
    ap (part xs 0x110000) all ∙ part_more xs 0x110000 a b
    ∙ ap (λ i. part xs 0x110000 a ++ part xs i b) next
    ∙ ap (λ (l : List ℕ). part xs 0x110000 a ++ l) (part_zeros_in xs n (to - n) b (omega (arith, back)) e)
    ∙ ap (λ k. part xs 0x110000 a ++ zeros_of k) left
