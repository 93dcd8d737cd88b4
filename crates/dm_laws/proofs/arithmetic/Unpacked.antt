-- Sums, differences, products and quotients of unpacked digits.
use Rattle.std.proofs.Common.{Bool, ◌≡◌, ◌≢◌, ℕ, ◌+◌, ◌-◌, ◌*◌, ◌/◌, ◌%◌, ◌<◌, ◌≤◌, true, false, ◌||◌, MatchBool, if◌then◌else◌, refl, ◌∙◌, ap, arith}
use Rattle.std.proofs.Math.Nat.{div-add-mod}
use native.Mathlib.Nat.{div-le_self, mod-lt}
use Rattle.std.specs.Int.{from_bool}
use Rattle.dm_laws.proofs.arithmetic.Quotients.{given}
use Rattle.dm_alu.specs.declared.width.Width.TheVariants.{Byte}
use Rattle.dm_alu.specs.Adjustments.{adjusted_value, flags_after_adjustment, ah_of, al_of, word_of_halves}
use Rattle.dm_alu.specs.Products.{product_value}
use Rattle.dm_alu.specs.Sums.{difference_value, flags_after_difference, flags_after_sum, sum_value}
use Rattle.dm_laws.specs.arithmetic.Decimal.{UnpackedDigitsAdd, UnpackedDigitsDivide, UnpackedDigitsMultiply, UnpackedDigitsSubtract}
use Rattle.dm_laws.proofs.arithmetic.Tests.{bit-below, test_le, test_lt}

-- AX after AAA, from AX before it
aaa : ℕ → Bool → ℕ
aaa ax off = if off then word_of_halves (ah_of ax + 1) ((al_of ax + 6) % 16) else
    word_of_halves (ah_of ax) (al_of ax % 16)

-- the sum carries, from the test of the low half and the adjust flag
sum-off : (h a b c ax : ℕ) (p q : Bool) → a < 256 → b < 256 → h < 256 → a % 16 < 10 → b % 16 < 10 → c ≤ 1 →
    ax ≡ word_of_halves h ((a + b + c) % 256) → MatchBool p (9 < al_of ax % 16) (al_of ax % 16 ≤ 9) →
    MatchBool q (16 ≤ a % 16 + b % 16 + c) (a % 16 + b % 16 + c < 16) →
    (al_of (aaa ax (p || q)) < 10) × (al_of (aaa ax (p || q)) + 10 * from_bool (p || q) ≡ a % 16 + b % 16 + c) ×
    (ah_of (aaa ax (p || q)) ≡ (h + from_bool (p || q)) % 256)
unfolding aaa
sum-off h a b c ax true true k l m x y z e s t = omega arith
sum-off h a b c ax true false k l m x y z e s t = omega arith
sum-off h a b c ax false true k l m x y z e s t = omega arith
sum-off h a b c ax false false k l m x y z e s t = omega arith

pub unpacked_add : UnpackedDigitsAdd
unfolding adjusted_value flags_after_adjustment sum_value flags_after_sum aaa
unpacked_add x b carry word a d =
    let r = sum-off (ah_of x.ax) (al_of x.ax) b (from_bool carry) (word_of_halves (ah_of x.ax)
    ((al_of x.ax + b + from_bool carry) % 256)) _ _ a.byte d.byte (omega arith) a.digit d.digit
    (bit-below carry) refl (test_lt 9 _) (test_le 16 (al_of x.ax % 16 + b % 16 + from_bool carry)) in
    record { digit = r.0; sum = r.1; carried = r.2 }

-- AX after AAS, from AX before it
aas : ℕ → Bool → ℕ
aas ax off = if off then word_of_halves (ah_of ax + 256 - 1) ((al_of ax + 256 - 6) % 16) else
    word_of_halves (ah_of ax) (al_of ax % 16)

difference-off : (h a b c ax : ℕ) (p q : Bool) → a < 256 → b < 256 → h < 256 → a % 16 < 10 → b % 16 < 10 → c ≤ 1 →
    ax ≡ word_of_halves h ((a + 256 - (b + c)) % 256) → MatchBool p (9 < al_of ax % 16) (al_of ax % 16 ≤ 9) →
    MatchBool q (a % 16 < b % 16 + c) (b % 16 + c ≤ a % 16) →
    (al_of (aas ax (p || q)) < 10) × (al_of (aas ax (p || q)) + (b % 16 + c) ≡ a % 16 + 10 * from_bool (p || q)) ×
    (ah_of (aas ax (p || q)) ≡ (h + 256 - from_bool (p || q)) % 256)
unfolding aas
difference-off h a b c ax true true k l m x y z e s t = omega arith
difference-off h a b c ax true false k l m x y z e s t = omega arith
difference-off h a b c ax false true k l m x y z e s t = omega arith
difference-off h a b c ax false false k l m x y z e s t = omega arith

pub unpacked_subtract : UnpackedDigitsSubtract
unfolding adjusted_value flags_after_adjustment difference_value flags_after_difference aas
unpacked_subtract x b borrow word a d =
    let r = difference-off (ah_of x.ax) (al_of x.ax) b (from_bool borrow) (word_of_halves (ah_of x.ax)
    ((al_of x.ax + 256 - (b + from_bool borrow)) % 256)) _ _ a.byte d.byte (omega arith) a.digit d.digit
    (bit-below borrow) refl (test_lt 9 _) (test_lt (al_of x.ax % 16) (b % 16 + from_bool borrow)) in
    record { digit = r.0; difference = r.1; borrowed = r.2 }

product-below : (a b : ℕ) → a < 10 → b < 10 → a * b < 100
product-below a b x y = grind arith

pub unpacked_multiply : UnpackedDigitsMultiply
unfolding adjusted_value product_value
unpacked_multiply x b a d =
    let k = product-below (al_of x.ax) b a d in
    record { tens = omega arith; units = omega arith; spelled = omega arith }

small_quotient : (n d : ℕ) → n < 100 → n / d < 256
small_quotient n d h = omega (arith, div-le_self n d)

above_zero : (d : ℕ) → d ≢ 0 → 0 < d
above_zero d e = omega arith

commuted : (a b : ℕ) → a * b ≡ b * a
commuted a b = omega arith

pub unpacked_divide : UnpackedDigitsDivide
unfolding adjusted_value
unpacked_divide x d h l k nonzero =
    let n : ℕ = word_of_halves 0 (ah_of x.ax * 10 + al_of x.ax) in
    record {
      quotient = n / d;
      remainder = n % d;
      divided = given Byte n d (n / d) (n % d) refl refl nonzero (small_quotient n d (omega arith));
      number = ap (λ z. z + n % d) (commuted (n / d) d) ∙ div-add-mod n d ∙ omega arith;
      less = mod-lt n (above_zero d nonzero);
    }
