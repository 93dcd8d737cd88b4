use Rattle.std.proofs.Common.{◌≡◌, ◌≢◌, ◌∙◌, ℕ, zero, suc, ◌-◌, ◌<◌, ◌≤◌, Bool, true, false, ◌&&◌, List, [], ◌∷◌, ◌++◌, Option, Some, None, IfSome, OnSome, All, ap, sym, refl, arith, append-nil, length, length-append, take, cond, eqb, get_or}
use Rattle.std.proofs.lemmas.Bool.{eqb-true, eq-eqb}
use Rattle.std.proofs.lemmas.Bool.Decides.{nat_tests}
use Rattle.std.proofs.lemmas.List.{take_all}
use Rattle.std.proofs.lemmas.List.{get_or_default}
use Rattle.std.proofs.lemmas.List.Elements.{All-nil, All-head, All-tail}
use Rattle.std.proofs.Transfers.{All-of_StopsAt}
use Rattle.std.proofs.BufReadLemmas.{through_part, take_through-append, drop_through-append}
use Rattle.std.specs.Prelude.{nat_lt}
use Rattle.std.specs.Io.{StopsAt, IsEmptyOrEndsWith}
use Rattle.std.specs.Io.BufRead.{take_through, drop_through, ends_with_byte, DropsThrough}
use Rattle.std.specs.Io.KnownBytes.{IsAtEnd}

ends_of : (p : List ℕ) → ends_with_byte 10 p ≡ true → IsEmptyOrEndsWith p 10
ends_of p h some = both (nat_lt 0 (length p)) _ h
  where
    both : (b : Bool) (a : ℕ) → (b && eqb a 10) ≡ true → a ≡ 10
    both true a e = eqb-true a 10 e
    both false a e = absurd (let x : false ≡ true = e in cc)

none_of : (p : List ℕ) → StopsAt p 10 → ends_with_byte 10 p ≡ false → All (λ x. x ≢ 10) p
none_of [] stops h = All-nil (λ x. x ≢ 10)
none_of (x ∷ xs) stops h =
    let last : ℕ = get_or (x ∷ xs) (length (x ∷ xs) - 1) 0 in
    let some : nat_lt 0 (length (x ∷ xs)) ≡ true = grind (arith, nat_tests) in
    All-of_StopsAt (x ∷ xs) 10 (length (x ∷ xs)) last refl (λ e. absurd (omega (arith, e))) (get_or_default (x
    ∷ xs) (length (x ∷ xs) - 1) 0 last (omega arith))
    (other (nat_lt 0 (length (x ∷ xs))) last h some) stops
  where
    other : (b : Bool) (a : ℕ) → (b && eqb a 10) ≡ false → b ≡ true → a ≢ 10
    other true a e t = λ same. (let clash = eq-eqb a 10 same in let u : true ≡ false = sym clash ∙ e in cc)
    other false a e t = absurd (let u : false ≡ true = t in cc)

-- a line with its end, whatever stands after it
pub first_ended : (p rest : List ℕ) → StopsAt p 10 → ends_with_byte 10 p ≡ true
    → (take_through 10 (p ++ rest) ≡ p) × (drop_through 10 (p ++ rest) ≡ rest)
first_ended [] rest stops ends = absurd (let x : false ≡ true = ends in cc)
first_ended (x ∷ xs) rest stops ends = through_part 10 (x ∷ xs) rest stops (ends_of (x ∷ xs) ends)
    (λ none. absurd (omega (arith, none)))

-- a line without its end, after which nothing stands
pub first_last : (p : List ℕ) → StopsAt p 10 → ends_with_byte 10 p ≡ false
    → (take_through 10 (p ++ []) ≡ p) × (drop_through 10 (p ++ []) ≡ [])
first_last p stops ends = (
  take_through-append 10 p [] (none_of p stops ends) ∙ append-nil p,
  drop_through-append 10 p [] (none_of p stops ends),
)

-- a first line is at least as long as what was read of it
pub first_long : (p rest : List ℕ) → StopsAt p 10 → length p ≤ length (take_through 10 (p ++ rest))
first_long p rest stops = by (ends_with_byte 10 p) refl
  where
    by : (b : Bool) → ends_with_byte 10 p ≡ b → length p ≤ length (take_through 10 (p ++ rest))
    by true e = rw ((first_ended p rest stops e).0) (omega arith)
    by false e = rw (take_through-append 10 p rest (none_of p stops e), length-append) (omega arith)

-- ---- a text that was cut

-- the first line of a text that was cut behind it
pub first_cut : (m : ℕ) (xs : List ℕ) → length (take_through 10 (take m xs)) < m
    → (take_through 10 (take m xs) ≡ take_through 10 xs) ×
    (drop_through 10 (take m xs) ≡ take (m - length (take_through 10 xs)) (drop_through 10 xs))
first_cut zero xs h = absurd (omega (arith, h))
first_cut (suc m) [] h = (refl, sym (take_all _ [] (omega arith)))
first_cut (suc m) (x ∷ xs) h = at (λ k. first_cut m xs k) (eqb x 10) h
  where
    at : (length (take_through 10 (take m xs)) < m → (take_through 10 (take m xs) ≡ take_through 10 xs)
        × (drop_through 10 (take m xs) ≡ take (m - length (take_through 10 xs)) (drop_through 10 xs))) → (b : Bool) →
        length (cond b (x ∷ []) (x ∷ take_through 10 (take m xs))) < suc m
        → (cond b (x ∷ []) (x ∷ take_through 10 (take m xs)) ≡ cond b (x ∷ []) (x ∷ take_through 10 xs))
        × (cond b (take m xs) (drop_through 10 (take m xs)) ≡ take (suc m - length (cond b (x ∷ []) (x
        ∷ take_through 10 xs))) (cond b xs (drop_through 10 xs)))
    at step true h = (refl, ap (λ k. take k xs) (let e : m ≡ suc m - 1 = omega arith in e))
    at step false h =
        let next = step (omega (arith, h)) in (
          ap (λ l. x ∷ l) next.0,
          next.1 ∙ ap (λ k. take k (drop_through 10 xs)) (let e : m - length (take_through 10 xs)
              ≡ suc m - suc (length (take_through 10 xs)) = omega arith in e),
        )

-- the first line of a text that was cut is no longer
pub first_cut_short : (m : ℕ) (xs : List ℕ) → length (take_through 10 (take m xs)) ≤ length (take_through 10 xs)
first_cut_short zero xs = omega arith
first_cut_short (suc m) [] = omega arith
first_cut_short (suc m) (x ∷ xs) = at (first_cut_short m xs) (eqb x 10)
  where
    at : length (take_through 10 (take m xs)) ≤ length (take_through 10 xs) → (b : Bool) →
        length (cond b (x ∷ []) (x ∷ take_through 10 (take m xs))) ≤ length (cond b (x ∷ []) (x ∷ take_through 10 xs))
    at h true = omega arith
    at h false = omega (arith, h)

-- ---- a line that a reader gave

-- a text with no line end is one line
none_through : (xs : List ℕ) → All (λ x. x ≢ 10) (take_through 10 xs) → drop_through 10 xs ≡ []
none_through [] none = refl
none_through (x ∷ xs) none = at (none_through xs) (eqb x 10) refl none
  where
    at : (All (λ y. y ≢ 10) (take_through 10 xs) → drop_through 10 xs ≡ []) → (b : Bool) → eqb x 10 ≡ b
        → All (λ y. y ≢ 10) (cond b (x ∷ []) (x ∷ take_through 10 xs)) → cond b xs (drop_through 10 xs) ≡ []
    at step true e all = absurd (All-head (λ y. y ≢ 10) x [] all (eqb-true x 10 e))
    at step false e all = step (All-tail (λ y. y ≢ 10) x (take_through 10 xs) all)

-- without its end it is the last one
pub last_of_all : (a b : Option (List ℕ)) (line : List ℕ) → IfSome a (λ xs. line ≡ take_through 10 xs) →
    DropsThrough a b 10 → StopsAt line 10
    → ends_with_byte 10 line ≡ false → OnSome a (IsAtEnd b)
last_of_all None b line is drops stops none = tt
last_of_all (Some xs) b line is drops stops none =
    let all : All (λ x. x ≢ 10) (take_through 10 xs) = none_of (take_through 10 xs) (rw (← is) stops)
    (rw (← is) none) in
    rw drops (none_through xs all)
