-- Results of arithmetic are values of their width.
use Rattle.std.proofs.Common.{Bool, ◌≡◌, ℕ, ℤ, pos, negsuc, zero, suc, ◌+◌, ◌-◌, ◌*◌, ◌/◌, ◌%◌, ◌^◌, ◌*ℤ◌, ◌<◌, ◌≤◌, true, false, if◌then◌else◌, nat_eq, nat_le, Some, None, refl, sym, subst, arith, unsigned_abs, int_div, int_rem}
use Rattle.std.specs.Int.{from_bool}
use Rattle.std.specs.Int.Bits.{and_lt, or_lt, xor_lt}
use Rattle.std.proofs.lemmas.Int.{rem_below}
use Rattle.dm_alu.specs.declared.adjustments.Adjustment.{Adjustment}
use Rattle.dm_alu.specs.declared.adjustments.Adjustment.TheVariants.{AsciiAddition, AsciiDivision, AsciiMultiplication, AsciiSubtraction, DecimalAddition, DecimalSubtraction}
use Rattle.dm_alu.specs.declared.bitwise.LogicOperation.{LogicOperation}
use Rattle.dm_alu.specs.declared.bitwise.LogicOperation.TheVariants.{And, Or, Xor}
use Rattle.dm_alu.specs.declared.flags.Flags.{Flags}
use Rattle.dm_alu.specs.declared.products.Division.{Division}
use Rattle.dm_alu.specs.declared.products.Sign.{Sign}
use Rattle.dm_alu.specs.declared.products.Sign.TheVariants.{Signed, Unsigned}
use Rattle.dm_alu.specs.declared.shifts.Shifted.{Shifted}
use Rattle.dm_alu.specs.declared.shifts.ShiftOperation.{ShiftOperation}
use Rattle.dm_alu.specs.declared.shifts.ShiftOperation.TheVariants.{ArithmeticRight, Left, LogicalRight, RotateLeft, RotateRight, RotateThroughCarryLeft, RotateThroughCarryRight}
use Rattle.dm_alu.specs.declared.width.Width.{Width}
use Rattle.dm_alu.specs.declared.width.Width.TheVariants.{Byte, Word}
use Rattle.dm_alu.specs.Adjustments.{adjusted_value, low_digit_off, al_of, ah_of, word_of_halves}
use Rattle.dm_alu.specs.Bitwise.{logic_value}
use Rattle.dm_alu.specs.Flags.{flags_word}
use Rattle.dm_alu.specs.Products.{product_value, quotient_of, signed_division, signed_double, twos_complement}
use Rattle.dm_alu.specs.Shifts.{moves, one_move, shift_value}
use Rattle.dm_alu.specs.Sums.{difference_value, sum_value}
use Rattle.dm_alu.specs.Width.{half, signed, size}
use Rattle.dm_laws.proofs.arithmetic.Moves.{moves-last, moves-zero}
use Rattle.dm_laws.proofs.arithmetic.Quotients.{below, if-some, positive, unsigned_divides}
use Rattle.dm_laws.proofs.arithmetic.SignedQuotients.{divisor-positive, divisor-small, product-small}

pub size-word : (w : Width) (n : ℕ) → n < size w → n < 65536
size-word Byte n h = omega arith
size-word Word n h = h

pub mod-below : (w : Width) (n : ℕ) → n % size w < size w
mod-below Byte n = omega arith
mod-below Word n = omega arith

pub sum-below : (w : Width) (a b : ℕ) (c : Bool) → sum_value w a b c < size w
unfolding sum_value
sum-below w a b c = mod-below w _

pub difference-below : (w : Width) (a b : ℕ) (c : Bool) → difference_value w a b c < size w
unfolding difference_value
difference-below w a b c = mod-below w _

logic-byte : (x : LogicOperation) (a b : ℕ) → a < 2 ^ 8 → b < 2 ^ 8 → logic_value x a b < 2 ^ 8
unfolding logic_value
logic-byte And a b h k = and_lt 8 a b h k
logic-byte Or a b h k = or_lt 8 a b h k
logic-byte Xor a b h k = xor_lt 8 a b h k

logic-word : (x : LogicOperation) (a b : ℕ) → a < 2 ^ 16 → b < 2 ^ 16 → logic_value x a b < 2 ^ 16
unfolding logic_value
logic-word And a b h k = and_lt 16 a b h k
logic-word Or a b h k = or_lt 16 a b h k
logic-word Xor a b h k = xor_lt 16 a b h k

pub logic-below : (x : LogicOperation) (w : Width) (a b : ℕ) → a < size w → b < size w → logic_value x a b < size w
logic-below x Byte a b h k = logic-byte x a b h k
logic-below x Word a b h k = logic-word x a b h k

pub complement-below : (w : Width) (a : ℕ) → size w - 1 - a < size w
complement-below Byte a = omega arith
complement-below Word a = omega arith

-- shifts and rotates
to_left : (w : Width) (n : ℕ) (b : Bool) → n * 2 % size w + from_bool b < size w
to_left Byte n true = omega arith
to_left Byte n false = omega arith
to_left Word n true = omega arith
to_left Word n false = omega arith

to_right : (w : Width) (n : ℕ) (b : Bool) → n < size w → n / 2 + from_bool b * half w < size w
to_right Byte n true h = omega arith
to_right Byte n false h = omega arith
to_right Word n true h = omega arith
to_right Word n false h = omega arith

move-below : (op : ShiftOperation) (w : Width) (m : Shifted) → m.value < size w → (one_move op w m).value < size w
move-below RotateLeft w m h = to_left w m.value _
move-below RotateRight w m h = to_right w m.value _ h
move-below RotateThroughCarryLeft w m h = to_left w m.value m.carry
move-below RotateThroughCarryRight w m h = to_right w m.value m.carry h
move-below Left w m h = to_left w m.value false
move-below LogicalRight w m h = to_right w m.value false h
move-below ArithmeticRight w m h = to_right w m.value _ h

moves-below : (op : ShiftOperation) (w : Width) (k : ℕ) (m : Shifted) → m.value < size w →
    (moves op w k m).value < size w
moves-below op w zero m h = subst (λ z. z.value < size w) (sym (moves-zero op w m)) h
moves-below op w (suc k) m h = subst (λ z. z.value < size w) (sym (moves-last op w k m))
    (move-below op w (moves op w k m) (moves-below op w k m h))

pub shift-below : (op : ShiftOperation) (w : Width) (n count : ℕ) (f : Flags) → n < size w →
    shift_value op w n count f < size w
unfolding shift_value
shift-below op w n count f h = moves-below op w count (record { value = n; carry = f.carry }) h

-- products
product-byte : (a b : ℕ) → a < 256 → b < 256 → a * b < 65536
product-byte a b h k = grind arith

product-word : (a b : ℕ) → a < 65536 → b < 65536 → a * b < 4294967296
product-word a b h k = grind arith

unsigned-product : (w : Width) (a b : ℕ) → a < size w → b < size w → a * b < size w * size w
unsigned-product Byte a b h k = product-byte a b h k
unsigned-product Word a b h k = product-word a b h k

twos-below : (limit : ℕ) (z : ℤ) → unsigned_abs z < limit → twos_complement limit z < limit
twos-below limit (pos n) h = h
twos-below limit (negsuc n) h = omega arith

half-below : (w : Width) → half w * size w ≤ size w * size w
half-below Byte = omega arith
half-below Word = omega arith

pub product-below : (sign : Sign) (w : Width) (a b : ℕ) → a < size w → b < size w →
    product_value sign w a b < size w * size w
unfolding product_value
product-below Unsigned w a b h k = unsigned-product w a b h k
product-below Signed w a b h k = twos-below (size w * size w) (signed w a *ℤ signed w b) (let p =
    product-small w a b h k in let q = half-below w in omega arith)

-- quotients
half-size : (w : Width) → half w < size w
half-size Byte = omega arith
half-size Word = omega arith

signed-parts : (w : Width) (q r : ℤ) (d : ℕ) → d < size w → unsigned_abs r < unsigned_abs (signed w d) →
    (x : Division) → signed_division w q r ≡ Some x → (x.quotient < size w) × (x.remainder < size w)
unfolding signed_division
signed-parts w q r d h k x e =
    let y = if-some (nat_le (half w) (unsigned_abs q)) (record {
      quotient = twos_complement (size w) q;
      remainder = twos_complement (size w) r;
    }) x e in
    let F : Division → Type 0 = λ z. (z.quotient < size w) × (z.remainder < size w) in
    let s = half-size w in
    let t = divisor-small w d h in
    let u = below _ _ y.0 in
    subst F y.1 (twos-below (size w) q (omega arith), twos-below (size w) r (omega arith))

signed-below : (w : Width) (n d : ℕ) (t : Bool) (x : Division) → d < size w → nat_eq d 0 ≡ t →
    (if t then None else signed_division w (int_div (signed_double w n) (signed w d))
    (int_rem (signed_double w n) (signed w d))) ≡ Some x → (x.quotient < size w) × (x.remainder < size w)
signed-below w n d true x h t e = absurd (let z = e in cc)
signed-below w n d false x h t e =
    let p = positive d t in
    let q = divisor-positive w d h (omega arith) in
    signed-parts w (int_div (signed_double w n) (signed w d)) (int_rem (signed_double w n) (signed w d)) d h
    (rem_below (signed_double w n) (signed w d) q) x e

pub quotient-below : (sign : Sign) (w : Width) (n d : ℕ) (x : Division) → d < size w → quotient_of sign w n d ≡ Some x →
    (x.quotient < size w) × (x.remainder < size w)
unfolding quotient_of
quotient-below Unsigned w n d x h e = (let y = (unsigned_divides w n d).divided x e in let l = y.less in
    (y.fits, omega arith))
quotient-below Signed w n d x h e = signed-below w n d (nat_eq d 0) x h refl e

-- adjustments
halves-below : (h l : ℕ) → word_of_halves h l < 65536
halves-below h l = omega arith

choice-below : (b : Bool) (x y : ℕ) → x < 65536 → y < 65536 → (if b then x else y) < 65536
choice-below true x y h k = h
choice-below false x y h k = k

pub adjusted-below : (a : Adjustment) (ax : ℕ) (f : Flags) → adjusted_value a ax f < 65536
unfolding adjusted_value
adjusted-below AsciiAddition ax f = choice-below (low_digit_off (al_of ax) f) _ _ (halves-below _ _) (halves-below _ _)
adjusted-below AsciiSubtraction ax f = choice-below (low_digit_off (al_of ax) f) _ _ (halves-below _ _)
    (halves-below _ _)
adjusted-below DecimalAddition ax f = halves-below _ _
adjusted-below DecimalSubtraction ax f = halves-below _ _
adjusted-below AsciiMultiplication ax f = halves-below (al_of ax / 10) (al_of ax % 10)
adjusted-below AsciiDivision ax f = halves-below 0 (ah_of ax * 10 + al_of ax)

bit-below : (c : Bool) → from_bool c ≤ 1
bit-below true = omega arith
bit-below false = omega arith

pub flags-below : (f : Flags) → flags_word f < 65536
unfolding flags_word
flags-below f =
    let c = bit-below f.carry in
    let p = bit-below f.parity in
    let a = bit-below f.adjust in
    let z = bit-below f.zero in
    let s = bit-below f.sign in
    let t = bit-below f.trap in
    let i = bit-below f.interrupt in
    let d = bit-below f.direction in
    let o = bit-below f.overflow in
    omega arith
