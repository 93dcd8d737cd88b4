-- The digits that DAA and DAS adjust: 6 more carries out of a digit over 9, and three eighths of the digits' number are
-- what is added or taken.
use Rattle.std.proofs.Common.{◌≡◌, ◌∙◌, ◌<◌, ◌+◌, ◌*◌, ◌/◌, ◌%◌, ◌||◌, ℕ, Bool, true, false, ap, refl, arith, if◌then◌else◌, nat_le, nat_lt, nat_eq}
use Rattle.std.specs.Prelude.{bit_or}
use Rattle.std.specs.Int.{from_bool}
use Rattle.std.proofs.lemmas.Bool.Decides.{nat_tests}
use Rattle.dm_alu.specs.declared.flags.Flags.{Flags}
use Rattle.dm_alu.specs.Adjustments.{low_digit_off, high_digit_off, decimal_change}
use Rattle.dm_operations.specs.inner.Digits.{digits_off}

over_nine : (x : ℕ) (b : Bool) → x < 16 → b ≡ nat_lt 9 x → (x + 6) / 16 * 16 ≡ from_bool b * 16
over_nine x true h e = grind (arith, nat_tests)
over_nine x false h e = grind (arith, nat_tests)

over_tens : (x : ℕ) (b : Bool) → x < 256 → b ≡ nat_lt 0x99 x → (x + 102) / 256 * 256 ≡ from_bool b * 256
over_tens x true h e = grind (arith, nat_tests)
over_tens x false h e = grind (arith, nat_tests)

either_unit : (a b : Bool) → bit_or (from_bool a * 16) (16 * from_bool b) ≡ from_bool (a || b) * 16
either_unit true true = refl
either_unit true false = refl
either_unit false true = refl
either_unit false false = refl

either_ten : (a b : Bool) → bit_or (from_bool a * 256) (256 * from_bool b) ≡ from_bool (a || b) * 256
either_ten true true = refl
either_ten true false = refl
either_ten false true = refl
either_ten false false = refl

pub units_off : (x : ℕ) (f : Flags) → x < 256 → bit_or ((x % 16 + 6) / 16 * 16) (16 * from_bool f.adjust)
    ≡ from_bool (low_digit_off x f) * 16
units_off x f h = ap (λ n. bit_or n (16 * from_bool f.adjust)) (over_nine (x % 16) _ (omega arith) refl)
    ∙ either_unit _ f.adjust

pub tens_off : (x : ℕ) (f : Flags) → x < 256 → bit_or ((x + 102) / 256 * 256) (256 * from_bool f.carry)
    ≡ from_bool (high_digit_off x f) * 256
tens_off x f h = ap (λ n. bit_or n (256 * from_bool f.carry)) (over_tens x _ h refl) ∙ either_ten _ f.carry

by_digits : (a b : Bool) → (from_bool a * 16 + from_bool b * 256) * 3 / 8 ≡ (if a then 6 else 0) + (if b then 0x60 else
    0)
by_digits true true = refl
by_digits true false = refl
by_digits false true = refl
by_digits false false = refl

-- what DAA adds and DAS takes
pub change : (x : ℕ) (f : Flags) → digits_off x f * 3 / 8 ≡ decimal_change x f
change x f = by_digits (low_digit_off x f) (high_digit_off x f)

low_bit : (a b : Bool) → nat_eq ((from_bool a * 16 + from_bool b * 256) / 16 % 2) 1 ≡ a
low_bit true true = refl
low_bit true false = refl
low_bit false true = refl
low_bit false false = refl

high_bit : (a b : Bool) → nat_le 256 (from_bool a * 16 + from_bool b * 256) ≡ b
high_bit true true = refl
high_bit true false = refl
high_bit false true = refl
high_bit false false = refl

-- which flags are set
pub adjusts : (x : ℕ) (f : Flags) → nat_eq (digits_off x f / 16 % 2) 1 ≡ low_digit_off x f
adjusts x f = low_bit (low_digit_off x f) (high_digit_off x f)

pub carries : (x : ℕ) (f : Flags) → nat_le 256 (digits_off x f) ≡ high_digit_off x f
carries x f = high_bit (low_digit_off x f) (high_digit_off x f)

some_digits : (a b : Bool) → from_bool a * 16 + from_bool b * 256 < 512
some_digits true true = omega arith
some_digits true false = omega arith
some_digits false true = omega arith
some_digits false false = omega arith

pub few : (x : ℕ) (f : Flags) → digits_off x f < 512
few x f = some_digits (low_digit_off x f) (high_digit_off x f)

small_change : (a b : Bool) → (if a then 6 else 0) + (if b then 0x60 else 0) < 103
small_change true true = omega arith
small_change true false = omega arith
small_change false true = omega arith
small_change false false = omega arith

pub little : (x : ℕ) (f : Flags) → decimal_change x f < 103
little x f = small_change (low_digit_off x f) (high_digit_off x f)
