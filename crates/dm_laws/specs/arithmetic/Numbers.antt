-- Decimal numbers of any length, in packed digits: added and subtracted byte by byte, from the lowest on.
-- Source: Intel 8086 Family User's Manual, section 2.7, Arithmetic Instructions: packed decimal numbers.
use Rattle.std.specs.Prelude.{List, [], length, ℕ, ◌*◌, ◌+◌, ◌^◌, ◌∷◌, ◌≡◌}
use Rattle.std.specs.Int.{from_bool}
use Rattle.dm_alu.specs.declared.adjustments.Adjustment.TheVariants.{DecimalAddition, DecimalSubtraction}
use Rattle.dm_alu.specs.Adjustments.{ah_of, al_of, word_of_halves}
use Rattle.dm_laws.specs.arithmetic.Decimal.{Accumulator, IsPacked, by_addition, by_adjustment, packed, subtracted}

-- a byte of each of two numbers, at one place
pub record Places : Type 0 where
  pub a : ℕ
  pub b : ℕ

-- the number that packed bytes spell, the lowest first
abbrev pub packed_number : List ℕ → ℕ
packed_number [] = 0
packed_number (d ∷ L) = packed d + 100 * packed_number L

-- the first number, and the second
abbrev pub first_number : List Places → ℕ
first_number [] = 0
first_number (p ∷ L) = packed p.a + 100 * first_number L

abbrev pub second_number : List Places → ℕ
second_number [] = 0
second_number (p ∷ L) = packed p.b + 100 * second_number L

-- each byte has two packed digits
abbrev pub ArePacked : List Places → Type 0
ArePacked [] = Unit {0}
ArePacked (p ∷ L) = IsPacked p.a × IsPacked p.b × ArePacked L

-- AL takes a byte; AH and the flags stay
abbrev pub loaded : Accumulator → ℕ → Accumulator
loaded x d = record x { ax = word_of_halves (ah_of x.ax) d }

-- one place of a sum: AL takes the first byte, ADC adds the second one, DAA adjusts; and one of a difference, by SBB
-- and DAS
abbrev pub place_added : Accumulator → Places → Accumulator
place_added x p = by_adjustment DecimalAddition (by_addition (loaded x p.a) p.b x.flags.carry)

abbrev pub place_subtracted : Accumulator → Places → Accumulator
place_subtracted x p = by_adjustment DecimalSubtraction (subtracted (loaded x p.a) p.b x.flags.carry)

-- the bytes of the sum, which AL has after each place, and the accumulator after the last one
abbrev pub sum_bytes : Accumulator → List Places → List ℕ
sum_bytes x [] = []
sum_bytes x (p ∷ L) = al_of (place_added x p).ax ∷ sum_bytes (place_added x p) L

abbrev pub after_sum : Accumulator → List Places → Accumulator
after_sum x [] = x
after_sum x (p ∷ L) = after_sum (place_added x p) L

-- the same of the difference
abbrev pub difference_bytes : Accumulator → List Places → List ℕ
difference_bytes x [] = []
difference_bytes x (p ∷ L) = al_of (place_subtracted x p).ax ∷ difference_bytes (place_subtracted x p) L

abbrev pub after_difference : Accumulator → List Places → Accumulator
after_difference x [] = x
after_difference x (p ∷ L) = after_difference (place_subtracted x p) L

-- the bytes and the last carry spell the sum of both numbers and the first carry; and, of a difference, with the second
-- number and the first borrow they spell the first number, where the last borrow counts as much as a further place
pub record NumbersComputed (x : Accumulator) (L : List Places) : Type 0 where
  pub sum :
      packed_number (sum_bytes x L) + 100 ^ length L * from_bool (after_sum x L).flags.carry
      ≡ first_number L + second_number L + from_bool x.flags.carry
  pub difference :
      packed_number (difference_bytes x L) + (second_number L + from_bool x.flags.carry)
      ≡ first_number L + 100 ^ length L * from_bool (after_difference x L).flags.carry

-- decimal numbers of any length are added and subtracted
abbrev pub NumbersAddAndSubtract : Type 0
NumbersAddAndSubtract = (x : Accumulator) (L : List Places) → ArePacked L → NumbersComputed x L
