-- Facts of `is_clear` and of the first place that is free.
use Rattle.std.proofs.Common.{◌≡◌, ℕ, zero, suc, ◌+◌, ◌<◌, ◌≤◌, Bool, true, false, not, ◌&&◌, List, [], ◌∷◌, length, get_or, Option, Some, None, refl, sym, ap, ◌∙◌, inl, inr, ◌⊎◌, arith}
use Rattle.std.specs.Prelude.{nat_lt, nat_le, if◌then◌else◌}
use Rattle.std.proofs.lemmas.Bool.{lt-ltb, le-ltb, le-leb}
use Rattle.std.proofs.Math.Bool.{true≢false}
use Rattle.std.proofs.lemmas.Bool.Decides.{leb_tells}
use Rattle.std.specs.Cmp.Derive.{both_true}
use Rattle.std.proofs.lemmas.Option.{none-some, same_Some}
use Rattle.dm_pool.specs.Gaps.{overlaps, is_clear, are_free, first_passing, lowest, first_empty, first_fit, next_index, Gap}
use Rattle.dm_pool.specs.inner.Gaps.{IsCovered, AreGaps}
use Rattle.dm_pool.specs.declared.extent.Extent.{Extent}

and_false : (b : Bool) → (b && false) ≡ false
and_false true = refl
and_false false = refl

false_and : (a b : Bool) → a ≡ false → (a && b) ≡ false
false_and true b e = absurd (true≢false e)
false_and false b e = refl

pub hits : (b : Extent) (p u : ℕ) → b.base < p + u → p < b.base + b.units → overlaps b p u ≡ true
hits b p u lo hi = both_true (lt-ltb b.base (p + u) lo) (lt-ltb p (b.base + b.units) hi)

pub before : (b : Extent) (p u : ℕ) → p + u ≤ b.base → overlaps b p u ≡ false
before b p u h = false_and (nat_lt b.base (p + u)) (nat_lt p (b.base + b.units)) (le-ltb b.base (p + u) h)

pub after : (b : Extent) (p u : ℕ) → b.base + b.units ≤ p → overlaps b p u ≡ false
after b p u h = ap (λ c. nat_lt b.base (p + u) && c) (le-ltb p (b.base + b.units) h) ∙ and_false (nat_lt b.base (p + u))

pub covered : (bs : List (Option Extent)) (i : ℕ) (b : Extent) (p u : ℕ) → get_or bs i None ≡ Some b →
    overlaps b p u ≡ true → is_clear bs p u ≡ false
covered [] i b p u e h = absurd (none-some b e)
covered (None ∷ bs) zero b p u e h = absurd (none-some b e)
covered (None ∷ bs) (suc i) b p u e h = covered bs i b p u e h
covered (Some c ∷ bs) zero b p u e h = ap (λ y. not y && is_clear bs p u) (ap (λ x. overlaps x p u) (same_Some c b e)
    ∙ h)
covered (Some c ∷ bs) (suc i) b p u e h = ap (λ y. not (overlaps c p u) && y) (covered bs i b p u e h)
    ∙ and_false (not (overlaps c p u))

pub clear : (bs : List (Option Extent)) (p u : ℕ) → ((i : ℕ) (b : Extent) → i < length bs → get_or bs i None ≡ Some b →
    overlaps b p u ≡ false) → is_clear bs p u ≡ true
clear [] p u h = refl
clear (None ∷ bs) p u h = clear bs p u (λ i b lt e. h (suc i) b (omega arith) e)
clear (Some c ∷ bs) p u h = both_true (ap not (h 0 c (omega arith) refl))
    (clear bs p u (λ i b lt e. h (suc i) b (omega arith) e))

pub past : (a b : ℕ) → b < a → nat_le a b ≡ false
past a b h = elim (leb_tells a b) [ inl t ↦ absurd (omega (arith, h, t.1)) | inr t ↦ t.0 ]

same_or_less : (a b : ℕ) → a ≤ b → (a ≡ b) ⊎ (a < b)
same_or_less zero zero h = inl refl
same_or_less zero (suc b) h = inr (omega arith)
same_or_less (suc a) zero h = absurd (omega arith)
same_or_less (suc a) (suc b) h = elim (same_or_less a b (omega arith)) [
  | inl e ↦ inl (ap suc e)
  | inr l ↦
      inr (omega arith)
]

pub found : (f : ℕ → Bool) (n p q : ℕ) → p ≤ q → q < p + n → f q ≡ true → ((r : ℕ) → p ≤ r → r < q → f r ≡ false) →
    first_passing f n p ≡ Some q
unfolding first_passing
found f zero p q le lt hit miss = absurd (omega arith)
found f (suc n) p q le lt hit miss = elim (same_or_less p q le) [
  | inl e ↦ ap (λ c. if c then Some p else first_passing f n (suc p)) (ap f e ∙ hit) ∙ ap Some e
  | inr l ↦ ap (λ c. if c then Some p else first_passing f n (suc p)) (miss p (omega arith) l)
      ∙ found f n (suc p) q (omega arith) (omega arith) hit (λ r a b. miss r (omega arith) b)
]

pub not_found : (f : ℕ → Bool) (n p : ℕ) → ((r : ℕ) → p ≤ r → r < p + n → f r ≡ false) → first_passing f n p ≡ None
unfolding first_passing
not_found f zero p miss = refl
not_found f (suc n) p miss = ap (λ c. if c then Some p else first_passing f n (suc p))
    (miss p (omega arith) (omega arith)) ∙ not_found f n (suc p) (λ r a b. miss r (omega arith) (omega arith))

pub free : (bs : List (Option Extent)) (n u p : ℕ) → p + u ≤ n → is_clear bs p u ≡ true → are_free bs n u p ≡ true
free bs n u p le h = both_true (le-leb (p + u) n le) h

pub taken : (bs : List (Option Extent)) (n u p : ℕ) → is_clear bs p u ≡ false → are_free bs n u p ≡ false
taken bs n u p h = ap (λ c. nat_le (p + u) n && c) h ∙ and_false (nat_le (p + u) n)

pub outside : (bs : List (Option Extent)) (n u p : ℕ) → n < p + u → are_free bs n u p ≡ false
outside bs n u p h = false_and (nat_le (p + u) n) (is_clear bs p u) (past (p + u) n h)

pub first_at : (bs : List (Option Extent)) (i : ℕ) → i < length bs → get_or bs i None ≡ None →
    ((j : ℕ) → j < i → (b : Extent) × (get_or bs j None ≡ Some b)) → first_empty bs ≡ Some i
first_at [] i lt e h = absurd (omega arith)
first_at (None ∷ bs) zero lt e h = refl
first_at (Some c ∷ bs) zero lt e h = absurd (none-some c (sym e))
first_at (None ∷ bs) (suc i) lt e h = let x = h 0 (omega arith) in absurd (none-some x.0 x.1)
first_at (Some c ∷ bs) (suc i) lt e h = ap next_index (first_at bs i (omega arith) e (λ j l. h (suc j) (omega arith)))

pub first_none : (bs : List (Option Extent)) → ((j : ℕ) → j < length bs → (b : Extent) × (get_or bs j None ≡ Some b)) →
    first_empty bs ≡ None
first_none [] h = refl
first_none (None ∷ bs) h = let x = h 0 (omega arith) in absurd (none-some x.0 x.1)
first_none (Some c ∷ bs) h = ap next_index (first_none bs (λ j l. h (suc j) (omega arith)))

pub below_or_not : (a b : ℕ) → (a < b) ⊎ (b ≤ a)
below_or_not zero zero = inr (omega arith)
below_or_not zero (suc b) = inl (omega arith)
below_or_not (suc a) zero = inr (omega arith)
below_or_not (suc a) (suc b) = elim (below_or_not a b) [ inl h ↦ inl (omega arith) | inr h ↦ inr (omega arith) ]

not_overlap : (b : Extent) (p u q v : ℕ) → overlaps b p u ≡ false → p ≤ q → q + v ≤ p + u → overlaps b q v ≡ false
not_overlap b p u q v h lo hi = elim (below_or_not b.base (q + v)) [
  | inl l ↦ elim (below_or_not q (b.base + b.units)) [
    | inl r ↦
        absurd (true≢false (sym (hits b p u (omega arith) (omega arith)) ∙ h))
    | inr r ↦ after b q v r
  ]
  | inr l ↦ before b q v l
]

not_true : (b : Bool) → not b ≡ true → b ≡ false
not_true true e = absurd (true≢false (sym e))
not_true false e = refl

both_so : (a b : Bool) → (a && b) ≡ true → (a ≡ true) × (b ≡ true)
both_so true b e = (refl, e)
both_so false b e = absurd (true≢false (sym e))

-- a part of clear units is clear
pub clear_part : (bs : List (Option Extent)) (p u q v : ℕ) → is_clear bs p u ≡ true → p ≤ q → q + v ≤ p + u →
    is_clear bs q v ≡ true
clear_part [] p u q v h lo hi = refl
clear_part (None ∷ bs) p u q v h lo hi = clear_part bs p u q v h lo hi
clear_part (Some c ∷ bs) p u q v h lo hi =
    let both = both_so (not (overlaps c p u)) (is_clear bs p u) h in
    both_true (ap not (not_overlap c p u q v (not_true (overlaps c p u) both.0) lo hi))
    (clear_part bs p u q v both.1 lo hi)

test : (b : Bool) → (b ≡ true) ⊎ (b ≡ false)
test true = inl refl
test false = inr refl

-- units of which one is covered are not clear
pub unclear : (bs : List (Option Extent)) (k q u : ℕ) → IsCovered bs k → q ≤ k → k < q + u → is_clear bs q u ≡ false
unclear bs k q u h lo hi = elim (test (is_clear bs q u)) [
  | inl y ↦
      absurd (true≢false (sym (clear_part bs q u k 1 y lo (omega arith)) ∙ h))
  | inr e ↦ e
]

fits_at : (bs : List (Option Extent)) (n u k : ℕ) (gs : List Gap) → 0 < u → AreGaps bs n k gs →
    ((q : ℕ) → q < k → are_free bs n u q ≡ false) → first_fit gs u ≡ lowest bs n u
fits_at bs n u k [] pos are miss = sym (not_found (are_free bs n u) (suc n) 0 (λ q le lt. elim (below_or_not q k) [
  | inl h ↦ miss q h
  | inr h ↦ elim (below_or_not q n) [
    | inl i ↦ taken bs n u q (unclear bs q q u (are q h i) (omega arith)
        (omega arith))
    | inr i ↦ outside bs n u q (omega arith)
  ]
]))
fits_at bs n u k (g ∷ gs) pos are miss =
    let before' : (q : ℕ) → q < g.low → are_free bs n u q ≡ false = λ q lt. elim (below_or_not q k) [
      | inl h ↦ miss q h
      | inr h ↦ taken bs n u q (unclear bs q q u (are.1 q h lt) (omega arith) (omega arith))
    ] in
    elim (below_or_not g.size u) [
      | inl small ↦
          ap (λ c. if c then Some g.low else first_fit gs u) (past u g.size small)
          ∙ fits_at bs n u (g.low + g.size) gs pos are.6 (λ q lt. elim (below_or_not q g.low) [
            | inl h ↦ before' q h
            | inr h ↦ elim (below_or_not (g.low + g.size) n) [
              | inl i ↦
                  taken bs n u q (unclear bs (g.low + g.size) q u (are.5 i) (omega arith) (omega arith))
              | inr i ↦
                  outside bs n u q (omega arith)
            ]
          ])
      | inr large ↦
          let room = are.4 in
          ap (λ c. if c then Some g.low else first_fit gs u) (le-leb u g.size large)
          ∙ sym (found (are_free bs n u) (suc n) 0 g.low (omega arith) (omega arith) (free bs n u g.low (omega arith)
          (clear_part bs g.low g.size g.low u are.3 (omega arith) (omega arith))) (λ q le lt. before' q lt))
    ]

-- the first gap that fits begins at the lowest free place
pub fit_is_lowest : (bs : List (Option Extent)) (n u : ℕ) (gs : List Gap) → 0 < u → AreGaps bs n 0 gs →
    first_fit gs u ≡ lowest bs n u
fit_is_lowest bs n u gs pos are = fits_at bs n u 0 gs pos are (λ q lt. absurd (omega (arith, lt)))
