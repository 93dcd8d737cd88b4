-- Some numbers, and some pairs of numbers, that pass a test.
use Rattle.std.proofs.Common.{◌≡◌, ℕ, zero, suc, ◌+◌, ◌-◌, ◌<◌, ◌≤◌, Bool, true, false, refl, sym, ◌∙◌, ap, arith, inl, inr}
use Rattle.std.specs.Prelude.{◌==◌, ◌&&◌, ◌||◌, nat_lt}
use Rattle.std.proofs.Math.Bool.{true≢false}
use Rattle.std.proofs.lemmas.Bool.{cases_lt}
use Rattle.std.proofs.lemmas.Bool.Decides.{nat_tests}
use Rattle.dm_space.specs.moves.Overlaps.{any_below, any_two}

or-true : (b : Bool) → (b || true) ≡ true
or-true true = refl
or-true false = refl

any-true : (n : ℕ) (f : ℕ → Bool) (i : ℕ) → i < n → f i ≡ true → any_below n f ≡ true
any-true zero f i h e = absurd (omega arith)
any-true (suc n) f i h e = elim (cases_lt i n) [
  | inl low ↦ ap (λ b. b || f n) (any-true n f i low e)
  | inr high ↦ let q : i ≡ n = omega arith in ap (λ b. any_below n f || b) (ap f (sym q) ∙ e) ∙ or-true (any_below n f)
]

any-none : (n : ℕ) (f : ℕ → Bool) → ((i : ℕ) → i < n → f i ≡ false) → any_below n f ≡ false
any-none zero f h = refl
any-none (suc n) f h = ap (λ b. b || f n) (any-none n f (λ i low. h i (omega arith))) ∙ h n (omega arith)

none-any : (n : ℕ) (f : ℕ → Bool) (i : ℕ) → any_below n f ≡ false → i < n → f i ≡ false
none-any n f i e h = either (f i) refl
  where
    either : (b : Bool) → f i ≡ b → f i ≡ false
    either true q = absurd (true≢false (sym (any-true n f i h q) ∙ e))
    either false q = q

-- one that passes
abbrev pub Found : ℕ → (ℕ → Bool) → Type 0
Found n f = (i : ℕ) × (i < n) × (f i ≡ true)

found-more : (n : ℕ) (f : ℕ → Bool) (b : Bool) → any_below n f ≡ b → (any_below n f ≡ true → Found n f) →
    any_below (suc n) f ≡ true → Found (suc n) f
found-more n f true q more e = (let g = more q in (g.0, omega (arith, g.1), g.2))
found-more n f false q more e = (n, omega arith, sym (ap (λ b. b || f n) q) ∙ e)

any-found : (n : ℕ) (f : ℕ → Bool) → any_below n f ≡ true → Found n f
any-found zero f e = absurd (true≢false (sym e))
any-found (suc n) f e = found-more n f (any_below n f) refl (any-found n f) e

-- ---- pairs

pub two-true : (n l : ℕ) (f : ℕ → ℕ → Bool) (i j : ℕ) → i < n → j < l → f i j ≡ true → any_two n l f ≡ true
two-true n l f i j h g e = any-true n (λ k. any_below l (f k)) i h (any-true l (f i) j g e)

pub two-none : (n l : ℕ) (f : ℕ → ℕ → Bool) → ((i j : ℕ) → i < n → j < l → f i j ≡ false) → any_two n l f ≡ false
two-none n l f h = any-none n (λ k. any_below l (f k)) (λ i low. any-none l (f i) (λ j less. h i j low less))

pub none-two : (n l : ℕ) (f : ℕ → ℕ → Bool) (i j : ℕ) → any_two n l f ≡ false → i < n → j < l → f i j ≡ false
none-two n l f i j e h g = none-any l (f i) j (none-any n (λ k. any_below l (f k)) i e h) g

abbrev pub FoundTwo : ℕ → ℕ → (ℕ → ℕ → Bool) → Type 0
FoundTwo n l f = (i : ℕ) × (j : ℕ) × (i < n) × (j < l) × (f i j ≡ true)

pub two-found : (n l : ℕ) (f : ℕ → ℕ → Bool) → any_two n l f ≡ true → FoundTwo n l f
two-found n l f e =
    let p = any-found n (λ k. any_below l (f k)) e in
    let q = any-found l (f p.0) p.2 in
    (p.0, q.0, p.1, q.1, q.2)

pub two-never : (n l : ℕ) → any_two n l (λ i j. false) ≡ false
two-never n l = two-none n l (λ i j. false) (λ i j h g. refl)

-- ---- ranges

pub meet-up : (a n b l : ℕ) → a ≤ b → 0 < l → nat_lt (b - a) n ≡ any_two n l (λ i j. a + i == b + j)
meet-up a n b l le some = elim (cases_lt (b - a) n) [
  | inl in_range ↦
      let yes : nat_lt (b - a) n ≡ true = grind (arith, nat_tests) in
      let q : a + (b - a) ≡ b + 0 = omega arith in
      let same : (a + (b - a) == b + 0) ≡ true = grind (arith, nat_tests) in
      yes ∙ sym (two-true n l (λ i j. a + i == b + j) (b - a) 0 in_range some same)
  | inr past ↦
      let no : nat_lt (b - a) n ≡ false = grind (arith, nat_tests) in
      no ∙ sym (two-none n l (λ i j. a + i == b + j) (λ i j h g. let less : a + i < b + j = omega arith in
      grind (arith, nat_tests)))
]

pub meet-down : (a n b l : ℕ) → b < a → 0 < n → nat_lt (a - b) l ≡ any_two n l (λ i j. a + i == b + j)
meet-down a n b l le some = elim (cases_lt (a - b) l) [
  | inl in_range ↦
      let yes : nat_lt (a - b) l ≡ true = grind (arith, nat_tests) in
      let q : a + 0 ≡ b + (a - b) = omega arith in
      let same : (a + 0 == b + (a - b)) ≡ true = grind (arith, nat_tests) in
      yes ∙ sym (two-true n l (λ i j. a + i == b + j) 0 (a - b) some in_range same)
  | inr past ↦
      let no : nat_lt (a - b) l ≡ false = grind (arith, nat_tests) in
      no ∙ sym (two-none n l (λ i j. a + i == b + j) (λ i j h g. let less : b + j < a + i = omega arith in
      grind (arith, nat_tests)))
]

-- ranges in two blocks
pub meet-page : (p q a n b l : ℕ) → p ≡ q → any_two n l (λ i j. a + i == b + j) ≡ any_two n l (λ i j. (p == q) &&
    (a + i == b + j))
meet-page p q a n b l e = (let t : (p == q) ≡ true = grind (arith, nat_tests) in
    ap (λ t. any_two n l (λ i j. t && (a + i == b + j))) (sym t))

pub meet-none : (p q a n b l : ℕ) → (p == q) ≡ false → false ≡ any_two n l (λ i j. (p == q) && (a + i == b + j))
meet-none p q a n b l e = sym (two-never n l) ∙ ap (λ t. any_two n l (λ i j. t && (a + i == b + j))) (sym e)
