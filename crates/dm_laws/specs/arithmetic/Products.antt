-- What products and quotients mean: division undoes multiplication, and a quotient with its remainder makes the
-- dividend.
-- Source: Intel 8086 Family User's Manual, section 2.7, Arithmetic Instructions, Multiplication and Division.
use Rattle.std.specs.Prelude.{None, Some, pos, unsigned_abs, ℕ, ◌*ℤ◌, ◌*◌, ◌+ℤ◌, ◌+◌, ◌<◌, ◌≡◌, ◌≢◌, ◌≤ℤ◌, ◌≤◌, ◌⊎◌}
use Rattle.dm_alu.specs.declared.products.Division.{Division}
use Rattle.dm_alu.specs.declared.products.Sign.TheVariants.{Signed, Unsigned}
use Rattle.dm_alu.specs.declared.width.Width.{Width}
use Rattle.dm_alu.specs.Products.{product_value, quotient_of, signed_double}
use Rattle.dm_alu.specs.Width.{half, signed, size}

-- the quotient times the divisor d, and the remainder, which is less than d, make the dividend n; the quotient fits the
-- width
pub record IsQuotient (w : Width) (n d : ℕ) (r : Division) : Type 0 where
  pub number : r.quotient * d + r.remainder ≡ n
  pub less : r.remainder < d
  pub fits : r.quotient < size w

-- DIV of n by d has such a quotient, or none if d is 0 or the quotient doesn't fit
pub record Divides (w : Width) (n d : ℕ) : Type 0 where
  pub divided : (r : Division) → quotient_of Unsigned w n d ≡ Some r → IsQuotient w n d r
  pub refused : quotient_of Unsigned w n d ≡ None → (d ≡ 0) ⊎ (size w * d ≤ n)

-- DIV divides
abbrev pub UnsignedDivisionDivides : Type 0
UnsignedDivisionDivides = (w : Width) (n d : ℕ) → Divides w n d

-- by the signed numbers that the values stand for: the quotient times the divisor, and the remainder, make the
-- dividend; the remainder is nearer to zero than the divisor, and not on the other side of zero than the dividend; the
-- quotient is from -127 to 127, or from -32,767 to 32,767
pub record IsSignedQuotient (w : Width) (n d : ℕ) (r : Division) : Type 0 where
  pub number : signed w r.quotient *ℤ signed w d +ℤ signed w r.remainder ≡ signed_double w n
  pub less : unsigned_abs (signed w r.remainder) < unsigned_abs (signed w d)
  pub up : pos 0 ≤ℤ signed_double w n → pos 0 ≤ℤ signed w r.remainder
  pub down : signed_double w n ≤ℤ pos 0 → signed w r.remainder ≤ℤ pos 0
  pub fits : unsigned_abs (signed w r.quotient) < half w

-- IDIV of n by d has such a quotient, or none if d is 0 or the quotient is out of that range
pub record DividesSigned (w : Width) (n d : ℕ) : Type 0 where
  pub divided : (r : Division) → quotient_of Signed w n d ≡ Some r → IsSignedQuotient w n d r
  pub refused : quotient_of Signed w n d ≡ None → (d ≡ 0) ⊎ (half w * unsigned_abs (signed w d)
      ≤ unsigned_abs (signed_double w n))

-- IDIV divides; the divisor is a value of the width
abbrev pub SignedDivisionDivides : Type 0
SignedDivisionDivides = (w : Width) (n d : ℕ) → d < size w → DividesSigned w n d

-- MUL of a by d, and DIV by d: the quotient is a, with no remainder
abbrev pub DivisionUndoesMultiplication : Type 0
DivisionUndoesMultiplication =
    (w : Width) (a d : ℕ) → a < size w → d ≢ 0 → quotient_of Unsigned w (product_value Unsigned w a d) d
    ≡ Some (record { quotient = a; remainder = 0 })

-- IMUL of a by d, and IDIV by d: the same. The value that stands for -128 or -32,768 is no quotient of IDIV
abbrev pub SignedDivisionUndoesMultiplication : Type 0
SignedDivisionUndoesMultiplication =
    (w : Width) (a d : ℕ) → a < size w → d < size w → a ≢ half w → d ≢ 0
    → quotient_of Signed w (product_value Signed w a d) d ≡ Some (record { quotient = a; remainder = 0 })
