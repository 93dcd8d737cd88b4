-- What the adjustments mean in decimal digits: after the instruction that each is made for, the accumulator has the
-- digits of the right number.
-- Source: Intel 8086 Family User's Manual, section 2.7, Arithmetic Instructions: packed and unpacked decimal numbers.
use Rattle.std.specs.Prelude.{Bool, Some, ℕ, ◌%◌, ◌*◌, ◌+◌, ◌-◌, ◌/◌, ◌<◌, ◌≡◌, ◌≢◌}
use Rattle.std.specs.Int.{from_bool}
use Rattle.dm_alu.specs.declared.adjustments.Adjustment.{Adjustment}
use Rattle.dm_alu.specs.declared.adjustments.Adjustment.TheVariants.{AsciiAddition, AsciiDivision, AsciiMultiplication, AsciiSubtraction, DecimalAddition, DecimalSubtraction}
use Rattle.dm_alu.specs.declared.flags.Flags.{Flags}
use Rattle.dm_alu.specs.declared.products.Sign.TheVariants.{Unsigned}
use Rattle.dm_alu.specs.declared.width.Width.TheVariants.{Byte}
use Rattle.dm_alu.specs.Adjustments.{adjusted_value, flags_after_adjustment, ah_of, al_of, word_of_halves}
use Rattle.dm_alu.specs.Products.{flags_after_product, product_value, quotient_of}
use Rattle.dm_alu.specs.Sums.{difference_value, flags_after_difference, flags_after_sum, sum_value}

-- the accumulator AX, and the flags
pub record Accumulator : Type 0 where
  pub ax : ℕ
  pub flags : Flags

-- a byte and a carry or borrow are added to AL: ADD with the carry `false`, ADC with CF
abbrev pub by_addition : Accumulator → ℕ → Bool → Accumulator
by_addition x b carry = record {
  ax = word_of_halves (ah_of x.ax) (sum_value Byte (al_of x.ax) b carry);
  flags = flags_after_sum Byte (al_of x.ax) b carry x.flags;
}

-- a byte and a borrow are taken from AL: SUB with the borrow `false`, SBB with CF
abbrev pub subtracted : Accumulator → ℕ → Bool → Accumulator
subtracted x b borrow = record {
  ax = word_of_halves (ah_of x.ax) (difference_value Byte (al_of x.ax) b borrow);
  flags = flags_after_difference Byte (al_of x.ax) b borrow x.flags;
}

-- AX becomes AL times a byte: MUL
abbrev pub by_multiplication : Accumulator → ℕ → Accumulator
by_multiplication x b = record {
  ax = product_value Unsigned Byte (al_of x.ax) b;
  flags = flags_after_product Unsigned Byte (al_of x.ax) b x.flags;
}

-- DAA, DAS, AAA, AAS, AAM or AAD
abbrev pub by_adjustment : Adjustment → Accumulator → Accumulator
by_adjustment adjustment x = record {
  ax = adjusted_value adjustment x.ax x.flags;
  flags = flags_after_adjustment adjustment x.ax x.flags;
}

-- a byte of two packed digits: each half is below 10
pub record IsPacked (n : ℕ) : Type 0 where
  pub tens : n / 16 < 10
  pub units : n % 16 < 10

-- the number that two packed digits spell, 0 to 99
abbrev pub packed : ℕ → ℕ
packed n = 10 * (n / 16) + n % 16

-- AL has the digits of a sum: it and 100 for the carry flag make the number; AH is h
pub record HasPackedSum (y : Accumulator) (number h : ℕ) : Type 0 where
  pub digits : IsPacked (al_of y.ax)
  pub sum : packed (al_of y.ax) + 100 * from_bool y.flags.carry ≡ number
  pub rest : ah_of y.ax ≡ h

-- ADD or ADC, and DAA
abbrev pub PackedDigitsAdd : Type 0
PackedDigitsAdd =
    (x : Accumulator) (b : ℕ) (carry : Bool) → x.ax < 65536 → IsPacked (al_of x.ax) → IsPacked b
    → HasPackedSum (by_adjustment DecimalAddition (by_addition x b carry)) (packed (al_of x.ax) + packed b
    + from_bool carry) (ah_of x.ax)

-- AL has the digits of a difference: with what is taken away it makes the number, and 100 for the carry flag, which is
-- the borrow; AH is h
pub record HasPackedDifference (y : Accumulator) (taken number h : ℕ) : Type 0 where
  pub digits : IsPacked (al_of y.ax)
  pub difference : packed (al_of y.ax) + taken ≡ number + 100 * from_bool y.flags.carry
  pub rest : ah_of y.ax ≡ h

-- SUB or SBB, and DAS
abbrev pub PackedDigitsSubtract : Type 0
PackedDigitsSubtract =
    (x : Accumulator) (b : ℕ) (borrow : Bool) → x.ax < 65536 → IsPacked (al_of x.ax) → IsPacked b
    → HasPackedDifference (by_adjustment DecimalSubtraction (subtracted x b borrow)) (packed b + from_bool borrow)
    (packed (al_of x.ax)) (ah_of x.ax)

-- a byte with an unpacked digit, which is its low half; the high half is anything, as the 3 of an ASCII digit
pub record IsUnpacked (n : ℕ) : Type 0 where
  pub byte : n < 256
  pub digit : n % 16 < 10

-- the digit of a byte
abbrev pub unpacked : ℕ → ℕ
unpacked n = n % 16

-- AL is the digit of a sum, and 10 for the carry flag makes the number; AH, which was h, has taken the carry, modulo
-- 256
pub record HasUnpackedSum (y : Accumulator) (number h : ℕ) : Type 0 where
  pub digit : al_of y.ax < 10
  pub sum : al_of y.ax + 10 * from_bool y.flags.carry ≡ number
  pub carried : ah_of y.ax ≡ (h + from_bool y.flags.carry) % 256

-- ADD or ADC, and AAA
abbrev pub UnpackedDigitsAdd : Type 0
UnpackedDigitsAdd =
    (x : Accumulator) (b : ℕ) (carry : Bool) → x.ax < 65536 → IsUnpacked (al_of x.ax) → IsUnpacked b
    → HasUnpackedSum (by_adjustment AsciiAddition (by_addition x b carry)) (unpacked (al_of x.ax) + unpacked b
    + from_bool carry) (ah_of x.ax)

-- AL is the digit of a difference: with what is taken away it makes the number, and 10 for the carry flag, which is the
-- borrow; AH, which was h, has given it, modulo 256
pub record HasUnpackedDifference (y : Accumulator) (taken number h : ℕ) : Type 0 where
  pub digit : al_of y.ax < 10
  pub difference : al_of y.ax + taken ≡ number + 10 * from_bool y.flags.carry
  pub borrowed : ah_of y.ax ≡ (h + 256 - from_bool y.flags.carry) % 256

-- SUB or SBB, and AAS
abbrev pub UnpackedDigitsSubtract : Type 0
UnpackedDigitsSubtract =
    (x : Accumulator) (b : ℕ) (borrow : Bool) → x.ax < 65536 → IsUnpacked (al_of x.ax) → IsUnpacked b
    → HasUnpackedDifference (by_adjustment AsciiSubtraction (subtracted x b borrow)) (unpacked b + from_bool borrow)
    (unpacked (al_of x.ax)) (ah_of x.ax)

-- AH and AL have the digits of the number
pub record HasDigits (y : Accumulator) (number : ℕ) : Type 0 where
  pub tens : ah_of y.ax < 10
  pub units : al_of y.ax < 10
  pub spelled : 10 * ah_of y.ax + al_of y.ax ≡ number

-- MUL of two digits, and AAM
abbrev pub UnpackedDigitsMultiply : Type 0
UnpackedDigitsMultiply =
    (x : Accumulator) (b : ℕ) → al_of x.ax < 10 → b < 10 →
    HasDigits (by_adjustment AsciiMultiplication (by_multiplication x b)) (al_of x.ax * b)

-- AAD, and DIV by a digit: AX is the number that the digits in AH and AL spell, which is the quotient times the divisor
-- and the remainder, below the divisor
pub record IsDividedByDigit (x : Accumulator) (d : ℕ) : Type 0 where
  pub quotient : ℕ
  pub remainder : ℕ
  pub divided : quotient_of Unsigned Byte (by_adjustment AsciiDivision x).ax d ≡ Some (record {
    quotient = quotient;
    remainder = remainder;
  })
  pub number : quotient * d + remainder ≡ 10 * ah_of x.ax + al_of x.ax
  pub less : remainder < d

-- AAD of two digits, and DIV by a digit that is not 0
abbrev pub UnpackedDigitsDivide : Type 0
UnpackedDigitsDivide = (x : Accumulator) (d : ℕ) → ah_of x.ax < 10 → al_of x.ax < 10 → d < 10 → d ≢ 0 →
    IsDividedByDigit x d
