-- The first line of some input, with more input after it.
use Rattle.std.proofs.Common.{◌≡◌, ℕ, ◌+◌, ◌<◌, ◌≤◌, ◌==◌, Bool, true, cond, List, ◌++◌, Some, None, length, get_or, sym, ◌∙◌, ap, subst, arith}
use Rattle.std.specs.Prelude.{nat_lt, position, take, drop}
use Rattle.std.specs.List.{position_or_len}
use Rattle.std.proofs.lemmas.Bool.{lt-ltb}
use Rattle.std.proofs.lemmas.List.{get_or_append_left, length-append, take-append-le, drop-append-le}
use Rattle.std.proofs.lemmas.List.Quantifiers.{position-Some}
use Rattle.std.proofs.lemmas.List.Sums.{position_or_len_is}
use Rattle.dm_services.specs.Lines.{line_length}

-- the first place that passes is the same with more after the list
first_stays : (p : ℕ → Bool) (xs ys : List ℕ) (i : ℕ) → position p xs ≡ Some i → position p (xs ++ ys) ≡ Some i
first_stays p xs ys i e =
    let found = position-Some p xs i 0 e in
    let below : i < length (xs ++ ys) = subst (λ n. i < n) (sym (length-append xs ys)) (omega (arith, found.0)) in
    let passes : p (get_or (xs ++ ys) i 0) ≡ true = ap p (get_or_append_left xs ys 0 i found.0) ∙ found.1 in
    let at : position_or_len p (xs ++ ys) ≡ i =
    position_or_len_is p (xs ++ ys) i 0 (omega (arith, below)) (λ k l. ap p (get_or_append_left xs ys 0 k (omega (
      arith,
      l,
      found.0,
    ))) ∙ found.2 k l) (λ l. passes) in
    ap (λ k. cond (nat_lt k (length (xs ++ ys))) (Some k) None) at
    ∙ ap (λ b. cond b (Some i) None) (lt-ltb i (length (xs ++ ys)) below)

pub line_stays : (input bytes : List ℕ) (line : ℕ) → line_length input ≡ Some line →
    line_length (input ++ bytes) ≡ Some line
unfolding line_length
line_stays input bytes line e = first_stays (λ byte. byte == 0x0D) input bytes line e

pub line_ends : (input : List ℕ) (line : ℕ) → line_length input ≡ Some line → line + 1 ≤ length input
unfolding line_length
line_ends input line e = let found = position-Some (λ byte. byte == 0x0D) input line 0 e in omega (arith, found.0)

pub taken : (input bytes : List ℕ) (n : ℕ) → n ≤ length input → take n (input ++ bytes) ≡ take n input
taken input bytes n l = take-append-le n input bytes l

pub left : (input bytes : List ℕ) (n : ℕ) → n ≤ length input → drop n (input ++ bytes) ≡ drop n input ++ bytes
left input bytes n l = drop-append-le n input bytes l
