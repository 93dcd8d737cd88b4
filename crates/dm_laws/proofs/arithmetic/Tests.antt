-- Comparisons of numbers as what they say.
use Rattle.std.proofs.Common.{Bool, ◌≡◌, ℕ, ◌%◌, ◌<◌, ◌≤◌, true, false, MatchBool, nat_le, nat_lt, refl, arith}
use Rattle.std.proofs.lemmas.Bool.Decides.{nat_tests}
use Rattle.std.specs.Int.{from_bool}
use Rattle.dm_alu.specs.Adjustments.{ah_of, al_of, word_of_halves}

less : (x y : ℕ) (b : Bool) → nat_lt x y ≡ b → MatchBool b (x < y) (y ≤ x)
less x y true e = grind (arith, nat_tests)
less x y false e = grind (arith, nat_tests)

pub test_lt : (x y : ℕ) → MatchBool (nat_lt x y) (x < y) (y ≤ x)
test_lt x y = less x y (nat_lt x y) refl

at_most : (x y : ℕ) (b : Bool) → nat_le x y ≡ b → MatchBool b (x ≤ y) (y < x)
at_most x y true e = grind (arith, nat_tests)
at_most x y false e = grind (arith, nat_tests)

pub test_le : (x y : ℕ) → MatchBool (nat_le x y) (x ≤ y) (y < x)
test_le x y = at_most x y (nat_le x y) refl

pub bit-below : (c : Bool) → from_bool c ≤ 1
bit-below true = omega arith
bit-below false = omega arith

-- the halves of a word made of halves
pub low-of : (h l : ℕ) → al_of (word_of_halves h l) ≡ l % 256
low-of h l = omega arith

pub high-of : (h l : ℕ) → ah_of (word_of_halves h l) ≡ h % 256
high-of h l = omega arith
