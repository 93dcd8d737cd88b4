-- A value moved by one bit to the right within a number of 32 bits, and a carry above a value
use Rattle.std.proofs.Common.{◌≡◌, ◌∙◌, ℕ, zero, suc, ◌+◌, ◌-◌, ◌*◌, ◌/◌, ◌%◌, ◌^◌, ◌<◌, ◌≤◌, Bool, true, false, refl, ap, sym, arith, min, nat_le, nat_eq}
use Rattle.std.specs.Int.{from_bool}
use Rattle.std.proofs.lemmas.Bool.Decides.{nat_tests}
use Rattle.dm_alu.specs.declared.width.Width.{Width}
use Rattle.dm_alu.specs.declared.width.Width.TheVariants.{Byte, Word}
use Rattle.dm_alu.specs.Width.{size, half}
use Rattle.dm_alu.specs.inner.Rotations.{bits_of, with_sign_above}
use native.Mathlib.Nat.{div-le_self}
use Rattle.dm_alu.specs.declared.shifts.Shifted.{Shifted}
use Rattle.dm_alu.specs.declared.shifts.ShiftOperation.TheVariants.{LogicalRight, ArithmeticRight}
use Rattle.dm_alu.specs.Shifts.{moves}
use Rattle.dm_alu.proofs.Signed.{right_by, right_by_sign}

pub turned_value : (w : Width) (v n : ℕ) (b : Bool) → n < 4294967296 → v < size w →
    n % (2 * size w) ≡ v + from_bool b * size w →
    (n / 2 + n * 2147483648 % 4294967296) % size w ≡ v / 2 + from_bool b * half w
turned_value Byte v n true h k e = omega arith
turned_value Byte v n false h k e = omega arith
turned_value Word v n true h k e = omega arith
turned_value Word v n false h k e = omega arith

turned_by : (v n : ℕ) (c d : Bool) → n < 4294967296 → n % 2 ≡ v % 2 →
    c ≡ nat_le 2147483648 (n / 2 + n * 2147483648 % 4294967296) → d ≡ nat_eq (v % 2) 1 → c ≡ d
turned_by v n true true h e f g = refl
turned_by v n true false h e f g = grind (arith, nat_tests)
turned_by v n false true h e f g = grind (arith, nat_tests)
turned_by v n false false h e f g = refl

lowest : (w : Width) (v n : ℕ) (b : Bool) → v < size w → n % (2 * size w) ≡ v + from_bool b * size w → n % 2 ≡ v % 2
lowest Byte v n true k e = omega arith
lowest Byte v n false k e = omega arith
lowest Word v n true k e = omega arith
lowest Word v n false k e = omega arith

pub turned_carry : (w : Width) (v n : ℕ) (b : Bool) → n < 4294967296 → v < size w →
    n % (2 * size w) ≡ v + from_bool b * size w →
    nat_le 2147483648 (n / 2 + n * 2147483648 % 4294967296) ≡ nat_eq (v % 2) 1
turned_carry w v n b h k e = turned_by v n _ _ h (lowest w v n b k e) refl refl

-- a carry in the top bit of 32, with a value below it
pub carry_fits : (w : Width) (v : ℕ) (c : Bool) → v < size w → v * (2147483648 / size w) + from_bool c * 2147483648
    < 4294967296
carry_fits Byte v true h = omega arith
carry_fits Byte v false h = omega arith
carry_fits Word v true h = omega arith
carry_fits Word v false h = omega arith

above_by : (x : ℕ) (c d : Bool) → x < 2147483648 → d ≡ nat_le 2147483648 (x + from_bool c * 2147483648) → d ≡ c
above_by x true true h e = refl
above_by x true false h e = grind (arith, nat_tests)
above_by x false true h e = grind (arith, nat_tests)
above_by x false false h e = refl

pub carry_above : (x : ℕ) (c : Bool) → x < 2147483648 → nat_le 2147483648 (x + from_bool c * 2147483648) ≡ c
carry_above x c h = above_by x c _ h refl

-- a value and its carry out of a number with more above them
byte_carry_by : (y : ℕ) (c d : Bool) → c ≡ nat_le 2147483648 (y % 512 * 8388608) → d ≡ nat_eq (y / 256 % 2) 1 → c ≡ d
byte_carry_by y true true e f = refl
byte_carry_by y true false e f = grind (arith, nat_tests)
byte_carry_by y false true e f = grind (arith, nat_tests)
byte_carry_by y false false e f = refl

pub byte_above : (y : ℕ) → nat_le 2147483648 (y % 512 * 8388608) ≡ nat_eq (y / 256 % 2) 1
byte_above y = byte_carry_by y _ _ refl refl

word_carry_by : (y : ℕ) (c d : Bool) → c ≡ nat_le 2147483648 (y % 131072 * 32768) → d ≡ nat_eq (y / 65536 % 2) 1 → c ≡ d
word_carry_by y true true e f = refl
word_carry_by y true false e f = grind (arith, nat_tests)
word_carry_by y false true e f = grind (arith, nat_tests)
word_carry_by y false false e f = refl

pub word_above : (y : ℕ) → nat_le 2147483648 (y % 131072 * 32768) ≡ nat_eq (y / 65536 % 2) 1
word_above y = word_carry_by y _ _ refl refl

-- a number moved to the right into the lower half of one of 64 bits
moved_down : (n k : ℕ) → k ≤ 16 → n * 4294967296 / 2 ^ k / 4294967296 ≡ n / 2 ^ k
moved_down n (suc (suc (suc (suc (suc (suc (suc (suc (suc (suc (suc (suc (suc (suc (suc (suc zero)))))))))))))))) l =
    omega arith
moved_down n k l = omega arith

moved_out : (n k : ℕ) → k < 16 → n * 4294967296 / 2 ^ suc k % 4294967296 / 2147483648 ≡ n / 2 ^ k % 2
moved_out n (suc (suc (suc (suc (suc (suc (suc (suc (suc (suc (suc (suc (suc (suc (suc zero))))))))))))))) l =
    omega arith
moved_out n k l = omega arith

top_by : (x b : ℕ) (c d : Bool) → x < 4294967296 → x / 2147483648 ≡ b → c ≡ nat_le 2147483648 x → d ≡ nat_eq b 1 → c ≡ d
top_by x b true true h e f g = refl
top_by x b true false h e f g = grind (arith, nat_tests)
top_by x b false true h e f g = grind (arith, nat_tests)
top_by x b false false h e f g = refl

pub halved_value : (n k : ℕ) → k ≤ 8 → n * 4294967296 / 2 ^ k / 4294967296 % 256 ≡ n / 2 ^ k % 256
halved_value n k h = ap (λ x. x % 256) (moved_down n k (omega arith))

pub halved_carry : (n k : ℕ) → 0 < k → k ≤ 8 → nat_le 2147483648 (n * 4294967296 / 2 ^ k % 4294967296)
    ≡ nat_eq (n / 2 ^ (k - 1) % 2) 1
halved_carry n zero h l = absurd (omega arith)
halved_carry n (suc k) h l =
    let less : suc k - 1 ≡ k = omega arith in
    top_by _ _ _ _ (omega arith) (moved_out n k (omega arith)) refl refl ∙ ap (λ j. nat_eq (n / 2 ^ j % 2) 1) (sym less)

pub within_size : (w : Width) (x : ℕ) → x % size w < size w
within_size Byte x = omega arith
within_size Word x = omega arith

-- SHR and SAR by at most as many bits as a value has
capped : (w : Width) (k : ℕ) → k ≤ bits_of w → min k 17 ≡ k
capped Byte k h = omega arith
capped Word k h = omega arith

capped_sign : (w : Width) (k : ℕ) → k ≤ bits_of w → min k 16 ≡ k
capped_sign Byte k h = omega arith
capped_sign Word k h = omega arith

small : (w : Width) (x : ℕ) → x < size w → x % size w ≡ x
small Byte x h = omega arith
small Word x h = omega arith

smaller : (x y k : ℕ) → x < y → x / 2 ^ k < y
smaller x y k h = let l = div-le_self x (2 ^ k) in omega arith

pub plain_value : (w : Width) (m : Shifted) (k : ℕ) → m.value < size w → 0 < k → k ≤ bits_of w →
    m.value / 2 ^ k % size w ≡ (moves LogicalRight w k m).value
plain_value w m k h s l =
    small w (m.value / 2 ^ k) (smaller m.value (size w) k h) ∙ ap (λ j. m.value / 2 ^ j) (sym (capped w k l))
    ∙ ap (λ (x : Shifted). x.value) (right_by w m k h s)

pub plain_carry : (w : Width) (m : Shifted) (k : ℕ) → m.value < size w → 0 < k → k ≤ bits_of w →
    nat_eq (m.value / 2 ^ (k - 1) % 2) 1 ≡ (moves LogicalRight w k m).carry
plain_carry w m k h s l = ap (λ j. nat_eq (m.value / 2 ^ (j - 1) % 2) 1) (sym (capped w k l))
    ∙ ap (λ (x : Shifted). x.carry) (right_by w m k h s)

pub sign_value : (w : Width) (m : Shifted) (k : ℕ) → m.value < size w → 0 < k → k ≤ bits_of w →
    with_sign_above w m.value / 2 ^ k % size w ≡ (moves ArithmeticRight w k m).value
sign_value w m k h s l = ap (λ j. with_sign_above w m.value / 2 ^ j % size w) (sym (capped_sign w k l))
    ∙ ap (λ (x : Shifted). x.value) (right_by_sign w m k h s)

pub sign_carry : (w : Width) (m : Shifted) (k : ℕ) → m.value < size w → 0 < k → k ≤ bits_of w →
    nat_eq (with_sign_above w m.value / 2 ^ (k - 1) % 2) 1 ≡ (moves ArithmeticRight w k m).carry
sign_carry w m k h s l = ap (λ j. nat_eq (with_sign_above w m.value / 2 ^ (j - 1) % 2) 1) (sym (capped_sign w k l))
    ∙ ap (λ (x : Shifted). x.carry) (right_by_sign w m k h s)

lowest_by : (x : ℕ) (c d : Bool) → c ≡ nat_le 2147483648 (x * 2147483648 % 4294967296) → d ≡ nat_eq (x % 2) 1 → c ≡ d
lowest_by x true true e f = refl
lowest_by x true false e f = grind (arith, nat_tests)
lowest_by x false true e f = grind (arith, nat_tests)
lowest_by x false false e f = refl

pub lowest_above : (x : ℕ) → nat_le 2147483648 (x * 2147483648 % 4294967296) ≡ nat_eq (x % 2) 1
lowest_above x = lowest_by x _ _ refl refl
