-- Blocks taken one after the other: each takes a number, and of the gaps as much as it counts for.
use Rattle.std.proofs.Common.{◌≡◌, ℕ, zero, suc, ◌+◌, ◌-◌, ◌/◌, ◌<◌, ◌≤◌, Bool, true, false, cond, not, ◌&&◌, List, [], ◌∷◌, length, get_or, set, Option, Some, None, refl, sym, ap, ◌∙◌, subst, inl, inr, arith}
use Rattle.std.specs.Prelude.{nat_le, if◌then◌else◌, ◌==◌, is_none, is_some, IsSome, count_by}
use Rattle.std.specs.Cmp.Derive.{both_true}
use Rattle.std.proofs.Math.Bool.{true≢false}
use Rattle.std.proofs.Math.Nat.{add-div_right, div_self}
use Rattle.std.proofs.lemmas.Nat.{div_below}
use Rattle.std.proofs.lemmas.Bool.{cases_eq, eq-eqb, ne_eqb, le-leb}
use Rattle.std.proofs.lemmas.Option.{none-some, same_Some}
use Rattle.std.proofs.lemmas.List.{get_or-set_same}
use Rattle.std.proofs.lemmas.List.Sums.{sum_by-cons, sum_by-set}
use Rattle.dm_pool.specs.declared.extent.Extent.{Extent}
use Rattle.dm_pool.specs.Gaps.{Gap, overlaps, is_clear, gaps, first_empty, first_fit, next_index, lowest, count_fitting}
use Rattle.dm_pool.specs.inner.Gaps.{IsCovered, AreGaps}
use Rattle.dm_pool.specs.Blocks.{Blocks, with_block, zeros, placed, taken, without, at_base, new_base, resized, resized_from, fitted}
use Rattle.dm_pool.specs.FreeList.{AreBased}
use Rattle.dm_pool.specs.Laws.{free_numbers, with_new, and_taken, taken_in_turn, BlocksCome}
use Rattle.dm_pool.proofs.Gaps.{hits, before, after, covered, past, below_or_not, clear_part, fit_is_lowest}
use Rattle.dm_pool.proofs.Blocks.{vacant}
use Rattle.dm_pool.proofs.Fits.{fit_here, fit_behind}
use Rattle.dm_pool.proofs.WrittenGaps.{lowered}
use Rattle.dm_pool.proofs.Maximal.{gaps_are, gaps_are_one}
use Rattle.dm_pool.proofs.Told.{lowest_zero}

-- ---- blocks of no unit stay at unit 0

pub come_based : (ps : List (Option Extent)) (k : ℕ) (b : Extent) → AreBased ps → (b.units ≡ 0 → b.base ≡ 0) →
    AreBased (set ps k (Some b))
come_based [] k b h f i c e z = h i c e z
come_based (p ∷ ps) zero b h f zero c e z = let same = same_Some b c e in sym (ap (λ (x : Extent). x.base) same)
    ∙ f (ap (λ (x : Extent). x.units) same ∙ z)
come_based (p ∷ ps) zero b h f (suc i) c e z = h (suc i) c e z
come_based (p ∷ ps) (suc k) b h f zero c e z = h 0 c e z
come_based (p ∷ ps) (suc k) b h f (suc i) c e z = come_based ps k b (λ j. h (suc j)) f i c e z

pub go_based : (ps : List (Option Extent)) (k : ℕ) → AreBased ps → AreBased (set ps k None)
go_based [] k h i c e z = h i c e z
go_based (p ∷ ps) zero h zero c e z = absurd (none-some c e)
go_based (p ∷ ps) zero h (suc i) c e z = h (suc i) c e z
go_based (p ∷ ps) (suc k) h zero c e z = h 0 c e z
go_based (p ∷ ps) (suc k) h (suc i) c e z = go_based ps k (λ j. h (suc j)) i c e z

-- the lowest gap of no unit is at 0
lowest_based : (ps : List (Option Extent)) (n u p : ℕ) → lowest ps n u ≡ Some p → u ≡ 0 → p ≡ 0
lowest_based ps n u p e z = sym (same_Some 0 p (sym (lowest_zero ps n) ∙ ap (lowest ps n) (sym z) ∙ e))

placed_based : (s : Blocks) (u : ℕ) (o q : Option ℕ) (i : ℕ) (t : Blocks) → lowest s.places s.units u ≡ q →
    placed s u o q ≡ Some (i, t) → AreBased s.places → AreBased t.places
placed_based s u None q i t f e h = absurd (none-some (i, t) e)
placed_based s u (Some k) None i t f e h = absurd (none-some (i, t) e)
placed_based s u (Some k) (Some p) i t f e h =
    let b : Extent = record { base = p; units = u } in
    let same = same_Some (k, with_block s k b (zeros u)) (i, t) e in
    subst (λ (x : ℕ × Blocks). AreBased x.1.places) same (come_based s.places k b h
    (lowest_based s.places s.units u p f))

pub taken_based : (s : Blocks) (u i : ℕ) (t : Blocks) → taken s u ≡ Some (i, t) → AreBased s.places → AreBased t.places
taken_based s u i t e h = placed_based s u (first_empty s.places) (lowest s.places s.units u) i t refl e h

pub without_based : (s : Blocks) (i : ℕ) → AreBased s.places → AreBased (without s i).places
without_based s i h = go_based s.places i h

at_base_based : (s : Blocks) (i u : ℕ) (o : Option ℕ) (t : Blocks) → at_base s i u o ≡ Some t →
    ((p : ℕ) → o ≡ Some p → u ≡ 0 → p ≡ 0) → AreBased s.places → AreBased t.places
at_base_based s i u None t e f h = absurd (none-some t e)
at_base_based s i u (Some p) t e f h =
    let b : Extent = record { base = p; units = u } in
    let same = same_Some (with_block s i b (fitted (get_or s.contents i []) u)) t e in
    subst (λ (x : Blocks). AreBased x.places) same (come_based s.places i b h (f p refl))

place_based : (s : Blocks) (i u : ℕ) (o : Option Extent) (t : Blocks) → resized_from s i u o ≡ Some t →
    AreBased s.places → AreBased t.places
place_based s i u None t e h = absurd (none-some t e)
place_based s i u (Some b) t e h = at_base_based s i u (new_base s i b u) t e
    (λ p f z. sym (same_Some 0 p (ap (new_base s i b) (sym z) ∙ f))) h

pub resized_based : (s : Blocks) (i u : ℕ) (t : Blocks) → resized s i u ≡ Some t → AreBased s.places → AreBased t.places
resized_based s i u t e h = place_based s i u (get_or s.places i None) t e h

-- ---- gaps without the block that came

and_less : (a x y : Bool) → (x ≡ false → y ≡ false) → (a && x) ≡ false → (a && y) ≡ false
and_less true x y f h = f h
and_less false x y f h = refl

both_so : (a b : Bool) → (a && b) ≡ true → (a ≡ true) × (b ≡ true)
both_so true b e = (refl, e)
both_so false b e = absurd (true≢false (sym e))

and_false : (b : Bool) → (b && false) ≡ false
and_false true = refl
and_false false = refl

-- what was covered is covered
covers_more : (bs : List (Option Extent)) (i : ℕ) (b : Extent) (p u : ℕ) → get_or bs i None ≡ None →
    is_clear bs p u ≡ false → is_clear (set bs i (Some b)) p u ≡ false
covers_more [] i b p u v h = h
covers_more (None ∷ bs) zero b p u v h = ap (λ y. not (overlaps b p u) && y) h ∙ and_false (not (overlaps b p u))
covers_more (Some c ∷ bs) zero b p u v h = absurd (none-some c (sym v))
covers_more (None ∷ bs) (suc i) b p u v h = covers_more bs i b p u v h
covers_more (Some c ∷ bs) (suc i) b p u v h = and_less (not (overlaps c p u)) (is_clear bs p u)
    (is_clear (set bs i (Some b)) p u) (covers_more bs i b p u v) h

-- what was clear, and is none of the block's, is clear
clear_beside : (bs : List (Option Extent)) (i : ℕ) (b : Extent) (p u : ℕ) → overlaps b p u ≡ false →
    is_clear bs p u ≡ true → is_clear (set bs i (Some b)) p u ≡ true
clear_beside [] i b p u o h = h
clear_beside (None ∷ bs) zero b p u o h = both_true (ap not o) h
clear_beside (Some c ∷ bs) zero b p u o h = both_true (ap not o) (both_so (not (overlaps c p u)) (is_clear bs p u) h).1
clear_beside (None ∷ bs) (suc i) b p u o h = clear_beside bs i b p u o h
clear_beside (Some c ∷ bs) (suc i) b p u o h = let both = both_so (not (overlaps c p u)) (is_clear bs p u) h in
    both_true both.0 (clear_beside bs i b p u o both.1)

-- the gaps once the first one that holds u units has lost its low ones
cut_gap : Gap → ℕ → List Gap → List Gap
cut_gap g u gs = if g.size == u then gs else record { low = g.low + u; size = g.size - u } ∷ gs

cut : ℕ → List Gap → List Gap
cut u [] = []
cut u (g ∷ gs) = if nat_le u g.size then cut_gap g u gs else g ∷ cut u gs

cut_here : (u : ℕ) (g : Gap) (gs : List Gap) → u ≤ g.size → cut u (g ∷ gs) ≡ cut_gap g u gs
unfolding cut
cut_here u g gs h = ap (λ c. if c then cut_gap g u gs else g ∷ cut u gs) (le-leb u g.size h)

cut_behind : (u : ℕ) (g : Gap) (gs : List Gap) → g.size < u → cut u (g ∷ gs) ≡ g ∷ cut u gs
unfolding cut
cut_behind u g gs h = ap (λ c. if c then cut_gap g u gs else g ∷ cut u gs) (past u g.size h)

cut_whole : (u : ℕ) (g : Gap) (gs : List Gap) → g.size ≡ u → cut_gap g u gs ≡ gs
unfolding cut_gap
cut_whole u g gs e = ap (λ c. if c then gs else record { low = g.low + u; size = g.size - u } ∷ gs) (eq-eqb g.size u e)

cut_part : (u : ℕ) (g : Gap) (gs : List Gap) → ¬ (g.size ≡ u) → cut_gap g u gs ≡ record {
  low = g.low + u;
  size = g.size - u;
} ∷ gs
unfolding cut_gap
cut_part u g gs ne = ap (λ c. if c then gs else record { low = g.low + u; size = g.size - u } ∷ gs) (ne_eqb g.size u ne)

-- the first gap that holds a block lies where the gaps begin, or above
fit_above : (bs : List (Option Extent)) (n k u p : ℕ) (gs : List Gap) → AreGaps bs n k gs → first_fit gs u ≡ Some p →
    k ≤ p
fit_above bs n k u p [] are e = absurd (none-some p e)
fit_above bs n k u p (g ∷ gs) are e =
    let low = are.0 in
    elim (below_or_not g.size u) [
      | inl small ↦ let h = fit_above bs n (g.low + g.size) u p gs are.6 (sym (fit_behind (g ∷ gs) g gs u refl small)
          ∙ e) in omega (arith, low, h)
      | inr large ↦ let same = same_Some g.low p (sym (fit_here (g ∷ gs) g gs u refl large) ∙ e) in
          omega (arith, low, same)
    ]

module _ (bs : List (Option Extent)) (n i : ℕ) (b : Extent) (lt : i < length bs) (free : get_or bs i None ≡ None) where
  abbrev new : List (Option Extent)
  new = set bs i (Some b)

  covers : (k : ℕ) → b.base ≤ k → k < b.base + b.units → IsCovered new k
  covers k lo hi = covered new i b k 1 (get_or-set_same bs i (Some b) None lt) (hits b k 1 (omega (arith, lo)) hi)

  still_covered : (k : ℕ) → IsCovered bs k → IsCovered new k
  still_covered k h = covers_more bs i b k 1 free h

  -- the gaps above the block
  above : (k : ℕ) (gs : List Gap) → AreGaps bs n k gs → b.base + b.units ≤ k → AreGaps new n k gs
  above k [] are le = λ j lo hi. still_covered j (are j lo hi)
  above k (g ∷ gs) are le =
      let low = are.0 in
      let up : b.base + b.units ≤ g.low = omega (arith, low, le) in
      let next : b.base + b.units ≤ g.low + g.size = omega (arith, up) in (
        low,
        (λ j lo hi. still_covered j (are.1 j lo hi)),
        are.2,
        clear_beside bs i b g.low g.size (after b g.low g.size up) are.3,
        are.4,
        (λ h. still_covered (g.low + g.size) (are.5 h)),
        above (g.low + g.size) gs are.6 next,
      )

  -- a gap that is as large as the block is none any more, and one that is larger begins behind the block
  cut_first : (k : ℕ) (g : Gap) (gs : List Gap) → g.low ≡ b.base → b.units ≤ g.size → 0 < b.units →
      AreGaps bs n k (g ∷ gs) → AreGaps new n k (cut_gap g b.units gs)
  cut_first k g gs at le pos are =
      let low = are.0 in let room = are.4 in
      let next : b.base + b.units ≤ g.low + g.size = omega (arith, at, le) in
      let rest = above (g.low + g.size) gs are.6 next in
      let begin : (j : ℕ) → k ≤ j → j < g.low + b.units → IsCovered new j
      = λ j lo hi. elim (below_or_not j g.low) [
        | inl h ↦ still_covered j (are.1 j lo h)
        | inr h ↦
            covers j (omega (arith, at, h)) (omega (arith, at, hi))
      ] in
      elim (cases_eq g.size b.units) [
        | inl e ↦ subst (AreGaps new n k) (sym (cut_whole b.units g gs e)) (lowered new n (g.low + g.size) k gs
            (λ j lo hi. begin j lo (omega (arith, e, hi))) (omega (arith, low)) rest)
        | inr ne ↦
            let end : g.low + b.units + (g.size - b.units) ≡ g.low + g.size = omega (arith, le) in
            let more : b.units < g.size = omega (arith, le, ne) in
            let behind : is_clear bs (g.low + b.units) (g.size - b.units) ≡ true =
            clear_part bs g.low g.size (g.low + b.units) (g.size - b.units) are.3 (omega arith) (omega (
              arith,
              end,
            )) in
            subst (AreGaps new n k) (sym (cut_part b.units g gs ne)) (
              omega (arith, low),
              begin,
              omega (arith, more),
              clear_beside bs i b (g.low + b.units) (g.size - b.units) (after b (g.low + b.units) (g.size - b.units)
                  (omega (arith, at))) behind,
              omega (arith, end, room),
              (λ h. subst (IsCovered new) (sym end) (still_covered (g.low + g.size) (are.5 (omega (arith, h, end))))),
              subst (λ j. AreGaps new n j gs) (sym end) rest,
            )
      ]

  cut_are : (k : ℕ) (gs : List Gap) → 0 < b.units → first_fit gs b.units ≡ Some b.base → AreGaps bs n k gs →
      AreGaps new n k (cut b.units gs)
  cut_are k [] pos e are = absurd (none-some b.base e)
  cut_are k (g ∷ gs) pos e are = elim (below_or_not g.size b.units) [
    | inl small ↦
        let there = sym (fit_behind (g ∷ gs) g gs b.units refl small) ∙ e in
        let far = fit_above bs n (g.low + g.size) b.units b.base gs are.6 there in
        subst (AreGaps new n k) (sym (cut_behind b.units g gs small)) (
          are.0,
          (λ j lo hi. still_covered j (are.1 j lo hi)),
          are.2,
          clear_beside bs i b g.low g.size (before b g.low g.size far) are.3,
          are.4,
          (λ h. still_covered (g.low + g.size) (are.5 h)),
          cut_are (g.low + g.size) gs pos there are.6,
        )
    | inr large ↦
        let at = same_Some g.low b.base (sym (fit_here (g ∷ gs) g gs b.units refl large) ∙ e) in
        subst (AreGaps new n k) (sym (cut_here b.units g gs large)) (cut_first k g gs at large pos are)
  ]

-- ---- what gaps count for

one_less : (u m : ℕ) → 0 < u → u ≤ m → (m - u) / u + 1 ≡ m / u
one_less u m pos le = let back : m - u + u ≡ m = omega (arith, le) in sym (add-div_right (m - u) pos)
    ∙ ap (λ k. k / u) back

count_of : (u : ℕ) (g : Gap) (gs : List Gap) → count_fitting u (g ∷ gs) ≡ g.size / u + count_fitting u gs
count_of u g gs = sum_by-cons (λ (r : Gap). r.size / u) g gs

cut_count_first : (u : ℕ) (g : Gap) (gs : List Gap) → 0 < u → u ≤ g.size → count_fitting u (cut_gap g u gs) + 1
    ≡ count_fitting u (g ∷ gs)
cut_count_first u g gs pos le = elim (cases_eq g.size u) [
  | inl e ↦
      let whole : g.size / u ≡ 1 = ap (λ k. k / u) e ∙ div_self pos in
      let left = ap (count_fitting u) (cut_whole u g gs e) in
      omega (arith, whole, left, count_of u g gs)
  | inr ne ↦
      let rest : Gap = record { low = g.low + u; size = g.size - u } in
      let left = ap (count_fitting u) (cut_part u g gs ne) in
      omega (arith, one_less u g.size pos le, left, count_of u g gs, count_of u rest gs)
]

cut_count : (u p : ℕ) (gs : List Gap) → 0 < u → first_fit gs u ≡ Some p → count_fitting u (cut u gs) + 1
    ≡ count_fitting u gs
cut_count u p [] pos e = absurd (none-some p e)
cut_count u p (g ∷ gs) pos e = elim (below_or_not g.size u) [
  | inl small ↦
      let rest = cut_count u p gs pos (sym (fit_behind (g ∷ gs) g gs u refl small) ∙ e) in
      let left = ap (count_fitting u) (cut_behind u g gs small) in
      omega (arith, rest, left, count_of u g gs, count_of u g (cut u gs))
  | inr large ↦ ap (λ (l : List Gap). count_fitting u l + 1) (cut_here u g gs large) ∙ cut_count_first u g gs pos large
]

none_fit : (u : ℕ) (gs : List Gap) → 0 < u → first_fit gs u ≡ None → count_fitting u gs ≡ 0
none_fit u [] pos e = refl
none_fit u (g ∷ gs) pos e = elim (below_or_not g.size u) [
  | inl small ↦
      let rest = none_fit u gs pos (sym (fit_behind (g ∷ gs) g gs u refl small) ∙ e) in
      let none : g.size / u < 1 = div_below g.size u 1 pos (omega (arith, small)) in
      omega (arith, rest, none, count_of u g gs)
  | inr large ↦ absurd (none-some g.low (sym e ∙ fit_here (g ∷ gs) g gs u refl large))
]

-- ---- numbers

none_next : (o : Option ℕ) → next_index o ≡ None → o ≡ None
none_next None e = refl
none_next (Some i) e = absurd (none-some (suc i) (sym e))

none_free : (ps : List (Option Extent)) → first_empty ps ≡ None → count_by is_none ps ≡ 0
none_free [] e = refl
none_free (None ∷ ps) e = absurd (none-some 0 (sym e))
none_free (Some c ∷ ps) e = let rest = none_free ps (none_next (first_empty ps) e) in
    omega (arith, sum_by-cons (λ (o : Option Extent). cond (is_none o) 1 0) (Some c) ps, rest)

one_taken : (ps : List (Option Extent)) (i : ℕ) (b : Extent) → i < length ps → get_or ps i None ≡ None →
    count_by is_none (set ps i (Some b)) + 1 ≡ count_by is_none ps
one_taken ps i b lt e =
    let one : Option Extent → ℕ = λ o. cond (is_none o) 1 0 in
    let old : one (get_or ps i None) ≡ 1 = ap one e in
    omega (arith, sum_by-set one ps i (Some b) None lt, old)

-- ---- one block

-- the blocks of a pool in which this many are free, by numbers and by gaps
pub record Leaves (s : Blocks) (u n : ℕ) (t : Blocks) : Type 0 where
  pub based : AreBased t.places
  pub numbers : free_numbers t + n ≡ free_numbers s
  pub fitting : count_fitting u (gaps t.places t.units) + n ≡ count_fitting u (gaps s.places s.units)

new_leaves : (s : Blocks) (u i p : ℕ) → AreBased s.places → 0 < u → first_empty s.places ≡ Some i →
    lowest s.places s.units u ≡ Some p → Leaves s u 1 (with_block s i (record { base = p; units = u }) (zeros u))
new_leaves s u i p based pos e f =
    let b : Extent = record { base = p; units = u } in
    let v = vacant s.places i e in
    let gs = gaps s.places s.units in
    let are = gaps_are s.places s.units based in
    let fit : first_fit gs u ≡ Some p = fit_is_lowest s.places s.units u gs pos are ∙ f in
    let new : AreBased (set s.places i (Some b)) = come_based s.places i b based (λ z. absurd (omega (
      arith,
      z,
      pos,
    ))) in
    let same = gaps_are_one (set s.places i (Some b)) s.units 0 (gaps (set s.places i (Some b)) s.units) (cut u gs)
    (gaps_are (set s.places i (Some b)) s.units new) (cut_are s.places s.units i b v.0 v.1 0 gs pos fit are) in
    record {
      based = new;
      numbers = one_taken s.places i b v.0 v.1;
      fitting = ap (λ (l : List Gap). count_fitting u l + 1) same ∙ cut_count u p gs pos fit;
    }

placed_leaves : (s : Blocks) (u : ℕ) (o q : Option ℕ) (i : ℕ) (t : Blocks) → AreBased s.places → 0 < u →
    first_empty s.places ≡ o → lowest s.places s.units u ≡ q → placed s u o q ≡ Some (i, t) → Leaves s u 1 t
placed_leaves s u None q i t based pos e f h = absurd (none-some (i, t) h)
placed_leaves s u (Some k) None i t based pos e f h = absurd (none-some (i, t) h)
placed_leaves s u (Some k) (Some p) i t based pos e f h =
    let same = same_Some (k, with_block s k (record { base = p; units = u }) (zeros u)) (i, t) h in
    subst (λ (x : ℕ × Blocks). Leaves s u 1 x.1) same (new_leaves s u k p based pos e f)

pub taken_leaves : (s : Blocks) (u i : ℕ) (t : Blocks) → AreBased s.places → 0 < u → taken s u ≡ Some (i, t) →
    Leaves s u 1 t
taken_leaves s u i t based pos h = placed_leaves s u (first_empty s.places) (lowest s.places s.units u) i t based pos
    refl refl h

placed_comes : (s : Blocks) (u : ℕ) (o q : Option ℕ) → AreBased s.places → 0 < u → 0 < free_numbers s →
    0 < count_fitting u (gaps s.places s.units)
    → first_empty s.places ≡ o → lowest s.places s.units u ≡ q → (p : ℕ × Blocks) × (placed s u o q ≡ Some p)
placed_comes s u None q based pos more fits e f = absurd (omega (arith, none_free s.places e, more))
placed_comes s u (Some k) None based pos more fits e f =
    let gs = gaps s.places s.units in
    absurd (omega (
      arith,
      none_fit u gs pos (fit_is_lowest s.places s.units u gs pos (gaps_are s.places s.units based)
          ∙ f),
      fits,
    ))
placed_comes s u (Some k) (Some p) based pos more fits e f =
    ((k, with_block s k (record { base = p; units = u }) (zeros u)), refl)

-- a block comes where there is a number for it and a gap
pub comes : (s : Blocks) (u : ℕ) → AreBased s.places → 0 < u → 0 < free_numbers s →
    0 < count_fitting u (gaps s.places s.units) → (p : ℕ × Blocks) × (taken s u ≡ Some p)
comes s u based pos more fits = placed_comes s u (first_empty s.places) (lowest s.places s.units u) based pos more fits
    refl refl

-- ---- one after the other

all_come : (s : Blocks) (u n : ℕ) → AreBased s.places → 0 < u → n ≤ free_numbers s →
    n ≤ count_fitting u (gaps s.places s.units) → (t : Blocks) × (taken_in_turn s u n ≡ Some t) × Leaves s u n t
all_come s u zero based pos more fits = (
  s,
  refl,
  record {
    based = based;
    numbers = omega arith;
    fitting = omega arith;
  },
)
all_come s u (suc n) based pos more fits =
    let r = all_come s u n based pos (omega (arith, more)) (omega (arith, fits)) in
    let left = r.2 in
    let numbers = left.numbers in let fitting = left.fitting in
    let new = comes r.0 u left.based pos (omega (arith, numbers, more)) (omega (arith, fitting, fits)) in
    let less = taken_leaves r.0 u new.0.0 new.0.1 left.based pos new.1 in (
      new.0.1,
      ap (λ (o : Option Blocks). and_taken o u) r.1 ∙ ap with_new new.1,
      record {
        based = less.based;
        numbers = omega (arith, less.numbers, numbers);
        fitting = omega (
          arith,
          less.fitting,
          fitting,
        );
      },
    )

then_leaves : (s r : Blocks) (u n : ℕ) (o : Option (ℕ × Blocks)) (t : Blocks) → 0 < u → Leaves s u n r → taken r u ≡ o →
    with_new o ≡ Some t → Leaves s u (suc n) t
then_leaves s r u n None t pos left e h = absurd (none-some t h)
then_leaves s r u n (Some p) t pos left e h =
    let less = taken_leaves r u p.0 p.1 left.based pos e in
    let numbers = left.numbers in let fitting = left.fitting in
    subst (Leaves s u (suc n)) (same_Some p.1 t h) (record {
      based = less.based;
      numbers = omega (
        arith,
        less.numbers,
        numbers,
      );
      fitting = omega (arith, less.fitting, fitting);
    })

after_turn : (s : Blocks) (u n : ℕ) (o : Option Blocks) (t : Blocks) → 0 < u → ((r : Blocks) → o ≡ Some r →
    Leaves s u n r) → and_taken o u ≡ Some t → Leaves s u (suc n) t
after_turn s u n None t pos left e = absurd (none-some t e)
after_turn s u n (Some r) t pos left e = then_leaves s r u n (taken r u) t pos (left r refl) refl e

turn_leaves : (s : Blocks) (u n : ℕ) (t : Blocks) → AreBased s.places → 0 < u → taken_in_turn s u n ≡ Some t →
    Leaves s u n t
turn_leaves s u zero t based pos e = subst (Leaves s u 0) (same_Some s t e) (record {
  based = based;
  numbers = omega arith;
  fitting = omega arith;
})
turn_leaves s u (suc n) t based pos e = after_turn s u n (taken_in_turn s u n) t pos
    (λ r. turn_leaves s u n r based pos) e

some_of : (o : Option Blocks) → IsSome o → (t : Blocks) × (o ≡ Some t)
some_of None h = absurd (true≢false (sym h))
some_of (Some t) h = (t, refl)

pub blocks_come : BlocksCome
blocks_come s u n based pos = (
  (λ h.
      let there = some_of (taken_in_turn s u n) h in
      let left = turn_leaves s u n there.0 based pos there.1 in
      (omega (arith, left.numbers), omega (arith, left.fitting))),
  (λ h. let there = all_come s u n based pos h.0 h.1 in ap is_some there.1),
)
