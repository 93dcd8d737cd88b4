-- A value after any count of single moves, found at once: by the count alone where it is below a period, or past what
-- any value has bits for.
use Rattle.std.proofs.Common.{◌≡◌, ◌∙◌, ◌≤◌, ◌<◌, ◌+◌, ◌*◌, ◌-◌, ◌/◌, ◌%◌, ◌^◌, ◌==◌, ℕ, suc, zero, Bool, true, false, ap, refl, sym, arith, if◌then◌else◌, min, nat_le, nat_lt, nat_eq}
use native.Mathlib.Nat.{div-le_self}
use Rattle.std.specs.Int.{from_bool}
use Rattle.std.proofs.lemmas.Bool.Decides.{nat_tests}
use Rattle.dm_alu.specs.declared.width.Width.{Width}
use Rattle.dm_alu.specs.declared.width.Width.TheVariants.{Byte, Word}
use Rattle.dm_alu.specs.declared.shifts.Shifted.{Shifted}
use Rattle.dm_alu.specs.declared.shifts.ShiftOperation.{ShiftOperation}
use Rattle.dm_alu.specs.declared.shifts.ShiftOperation.TheVariants.{RotateLeft, RotateRight, RotateThroughCarryLeft, RotateThroughCarryRight, Left, LogicalRight, ArithmeticRight}
use Rattle.dm_alu.specs.Width.{size, half}
use Rattle.dm_alu.specs.Shifts.{one_move, moves}
use Rattle.dm_alu.proofs.Bits.{bit_le}
use Rattle.dm_alu.specs.inner.Rotations.{bits_of, rotated, with_carry_above, with_carry_below}

-- a value and its carry by their parts
same : (p q : Shifted) → p.value ≡ q.value → p.carry ≡ q.carry → p ≡ q
same p q e f = λ i. record { value = e i; carry = f i }

-- a flag is the test of the bit that it counts as
read_bit : (b : Bool) (n : ℕ) → n ≡ from_bool b → (n == 1) ≡ b
read_bit false n e = rw e
read_bit true n e = rw e

-- 8 bits: one bit more to the left, one more to the right, and within the size
byte_left : (x k : ℕ) → x < 256 → k < 8 → rotated 256 x (suc k % 8) ≡ rotated 256 x k * 2 % 256
    + rotated 256 x k * 2 / 256
byte_left x (suc (suc (suc (suc (suc (suc (suc zero))))))) h l = omega arith
byte_left x k h l = omega arith

byte_right : (x k : ℕ) → x < 256 → k < 8 → rotated 256 x (8 - suc k % 8) ≡ rotated 256 x (8 - k) / 2
    + rotated 256 x (8 - k) % 2 * 128
byte_right x (suc (suc (suc (suc (suc (suc (suc zero))))))) h l = omega arith
byte_right x k h l = omega arith

byte_below : (x k : ℕ) → x < 256 → k ≤ 8 → rotated 256 x k < 256
byte_below x (suc (suc (suc (suc (suc (suc (suc (suc zero)))))))) h l = omega arith
byte_below x k h l = omega arith

-- 9 bits: one bit more to the left, one more to the right, and within the size
nine_left : (x k : ℕ) → x < 512 → k < 9 → rotated 512 x (suc k % 9) ≡ rotated 512 x k * 2 % 512
    + rotated 512 x k * 2 / 512
nine_left x (suc (suc (suc (suc (suc (suc (suc (suc zero)))))))) h l = omega arith
nine_left x k h l = omega arith

nine_right : (x k : ℕ) → x < 512 → k < 9 → rotated 512 x (9 - suc k % 9) ≡ rotated 512 x (9 - k) / 2
    + rotated 512 x (9 - k) % 2 * 256
nine_right x (suc (suc (suc (suc (suc (suc (suc (suc zero)))))))) h l = omega arith
nine_right x k h l = omega arith

pub nine_below : (x k : ℕ) → x < 512 → k ≤ 9 → rotated 512 x k < 512
nine_below x (suc (suc (suc (suc (suc (suc (suc (suc (suc zero))))))))) h l = omega arith
nine_below x k h l = omega arith

-- 16 bits: one bit more to the left, one more to the right, and within the size
word_left : (x k : ℕ) → x < 65536 → k < 16 → rotated 65536 x (suc k % 16) ≡ rotated 65536 x k * 2 % 65536
    + rotated 65536 x k * 2 / 65536
word_left x (suc (suc (suc (suc (suc (suc (suc (suc (suc (suc (suc (suc (suc (suc (suc zero))))))))))))))) h l =
    omega arith
word_left x k h l = omega arith

word_right : (x k : ℕ) → x < 65536 → k < 16 → rotated 65536 x (16 - suc k % 16) ≡ rotated 65536 x (16 - k) / 2
    + rotated 65536 x (16 - k) % 2 * 32768
word_right x (suc (suc (suc (suc (suc (suc (suc (suc (suc (suc (suc (suc (suc (suc (suc zero))))))))))))))) h l =
    omega arith
word_right x k h l = omega arith

word_below : (x k : ℕ) → x < 65536 → k ≤ 16 → rotated 65536 x k < 65536
word_below x (suc (suc (suc (suc (suc (suc (suc (suc (suc (suc (suc (suc (suc (suc (suc (suc zero)))))))))))))))) h l =
    omega arith
word_below x k h l = omega arith

-- 17 bits: one bit more to the left, one more to the right, and within the size
seventeen_left : (x k : ℕ) → x < 131072 → k < 17 → rotated 131072 x (suc k % 17) ≡ rotated 131072 x k * 2 % 131072
    + rotated 131072 x k * 2 / 131072
seventeen_left x (suc (suc (suc (suc (suc (suc (suc (suc (suc (suc (suc (suc (suc (suc (suc (suc zero)))))))))))))))) h
    l = omega arith
seventeen_left x k h l = omega arith

seventeen_right : (x k : ℕ) → x < 131072 → k < 17 → rotated 131072 x (17 - suc k % 17) ≡ rotated 131072 x (17 - k) / 2
    + rotated 131072 x (17 - k) % 2 * 65536
seventeen_right x (suc (suc (suc (suc (suc (suc (suc (suc (suc (suc (suc (suc (suc (suc (suc (suc zero)))))))))))))))) h
    l = omega arith
seventeen_right x k h l = omega arith

pub seventeen_below : (x k : ℕ) → x < 131072 → k ≤ 17 → rotated 131072 x k < 131072
seventeen_below x
    (suc (suc (suc (suc (suc (suc (suc (suc (suc (suc (suc (suc (suc (suc (suc (suc (suc zero))))))))))))))))) h l =
    omega arith
seventeen_below x k h l = omega arith

-- the bits that single moves of a byte take up, as numbers
byte_top : (v : ℕ) (t : Bool) → v < 256 → t ≡ nat_le 128 v → from_bool t ≡ v * 2 / 256
byte_top v true h e = grind (arith, nat_tests)
byte_top v false h e = grind (arith, nat_tests)

low_of_byte : (v : ℕ) (t : Bool) → t ≡ nat_eq (v % 2) 1 → from_bool t ≡ v % 2
low_of_byte v true e = grind (arith, nat_tests)
low_of_byte v false e = grind (arith, nat_tests)

byte_rol : (x v k : ℕ) → x < 256 → v ≡ rotated 256 x (k % 8) → v * 2 % 256 + from_bool (nat_le 128 v)
    ≡ rotated 256 x (suc k % 8)
byte_rol x v k h e =
    let l : k % 8 < 8 = omega arith in
    let below = byte_below x (k % 8) h (omega arith) in
    let inside : v < 256 = omega arith in
    let top = byte_top v _ inside refl in
    let next = byte_left x (k % 8) h l in
    let period : suc (k % 8) % 8 ≡ suc k % 8 = omega arith in
    let first : v * 2 % 256 + from_bool (nat_le 128 v) ≡ rotated 256 x (suc (k % 8) % 8) = omega arith in
    first ∙ ap (rotated 256 x) period

byte_ror : (x v k : ℕ) → x < 256 → v ≡ rotated 256 x (8 - k % 8) → v / 2 + from_bool (nat_eq (v % 2) 1) * 128
    ≡ rotated 256 x (8 - suc k % 8)
byte_ror x v k h e =
    let l : k % 8 < 8 = omega arith in
    let low = low_of_byte v _ refl in
    let next = byte_right x (k % 8) h l in
    let period : 8 - suc (k % 8) % 8 ≡ 8 - suc k % 8 = omega arith in
    let first : v / 2 + from_bool (nat_eq (v % 2) 1) * 128 ≡ rotated 256 x (8 - suc (k % 8) % 8) = omega arith in
    first ∙ ap (rotated 256 x) period

-- the bits that single moves of a word take up, as numbers
word_top : (v : ℕ) (t : Bool) → v < 65536 → t ≡ nat_le 32768 v → from_bool t ≡ v * 2 / 65536
word_top v true h e = grind (arith, nat_tests)
word_top v false h e = grind (arith, nat_tests)

low_of_word : (v : ℕ) (t : Bool) → t ≡ nat_eq (v % 2) 1 → from_bool t ≡ v % 2
low_of_word v true e = grind (arith, nat_tests)
low_of_word v false e = grind (arith, nat_tests)

word_rol : (x v k : ℕ) → x < 65536 → v ≡ rotated 65536 x (k % 16) → v * 2 % 65536 + from_bool (nat_le 32768 v)
    ≡ rotated 65536 x (suc k % 16)
word_rol x v k h e =
    let l : k % 16 < 16 = omega arith in
    let below = word_below x (k % 16) h (omega arith) in
    let inside : v < 65536 = omega arith in
    let top = word_top v _ inside refl in
    let next = word_left x (k % 16) h l in
    let period : suc (k % 16) % 16 ≡ suc k % 16 = omega arith in
    let first : v * 2 % 65536 + from_bool (nat_le 32768 v) ≡ rotated 65536 x (suc (k % 16) % 16) = omega arith in
    first ∙ ap (rotated 65536 x) period

word_ror : (x v k : ℕ) → x < 65536 → v ≡ rotated 65536 x (16 - k % 16) → v / 2 + from_bool (nat_eq (v % 2) 1) * 32768
    ≡ rotated 65536 x (16 - suc k % 16)
word_ror x v k h e =
    let l : k % 16 < 16 = omega arith in
    let low = low_of_word v _ refl in
    let next = word_right x (k % 16) h l in
    let period : 16 - suc (k % 16) % 16 ≡ 16 - suc k % 16 = omega arith in
    let first : v / 2 + from_bool (nat_eq (v % 2) 1) * 32768 ≡ rotated 65536 x (16 - suc (k % 16) % 16) = omega arith in
    first ∙ ap (rotated 65536 x) period

-- the value after any count of rotations
rotates_left : (w : Width) (m : Shifted) (count : ℕ) → m.value < size w → (moves RotateLeft w count m).value
    ≡ rotated (size w) m.value (count % bits_of w)
unfolding moves
rotates_left Byte m zero h = omega arith
rotates_left Word m zero h = omega arith
rotates_left Byte m (suc k) h = byte_rol m.value (moves RotateLeft Byte k m).value k h (rotates_left Byte m k h)
rotates_left Word m (suc k) h = word_rol m.value (moves RotateLeft Word k m).value k h (rotates_left Word m k h)

rotates_right : (w : Width) (m : Shifted) (count : ℕ) → m.value < size w → (moves RotateRight w count m).value
    ≡ rotated (size w) m.value (bits_of w - count % bits_of w)
unfolding moves
rotates_right Byte m zero h = omega arith
rotates_right Word m zero h = omega arith
rotates_right Byte m (suc k) h = byte_ror m.value (moves RotateRight Byte k m).value k h (rotates_right Byte m k h)
rotates_right Word m (suc k) h = word_ror m.value (moves RotateRight Word k m).value k h (rotates_right Word m k h)

byte_turned_left : (m : Shifted) (k : ℕ) → m.value < 256 →
    record { value = rotated 256 m.value (suc k % 8) % 256; carry = nat_eq (rotated 256 m.value (suc k % 8) % 2) 1 }
    ≡ moves RotateLeft Byte (suc k) m
unfolding moves
byte_turned_left m k h =
    let v = (moves RotateLeft Byte k m).value in
    let e : v ≡ rotated 256 m.value (k % 8) = rotates_left Byte m k h in
    let below = byte_below m.value (suc k % 8) h (omega arith) in
    let next = byte_rol m.value v k h e in
    let few = bit_le (nat_le 128 v) in
    same _ _ (omega arith) (read_bit (nat_le 128 v) _ (omega arith))

byte_sign : (v r : ℕ) (b : Bool) → v < 256 → r ≡ v / 2 + from_bool b * 128 → nat_le 128 r ≡ b
byte_sign v r true h e = grind (arith, nat_tests)
byte_sign v r false h e = grind (arith, nat_tests)

byte_turned_right : (m : Shifted) (k : ℕ) → m.value < 256 →
    record {
      value = rotated 256 m.value (8 - suc k % 8) % 256;
      carry = nat_le 128 (rotated 256 m.value (8 - suc k % 8) % 256);
    } ≡ moves RotateRight Byte (suc k) m
unfolding moves
byte_turned_right m k h =
    let v = (moves RotateRight Byte k m).value in
    let e : v ≡ rotated 256 m.value (8 - k % 8) = rotates_right Byte m k h in
    let below = byte_below m.value (8 - k % 8) h (omega arith) in
    let within = byte_below m.value (8 - suc k % 8) h (omega arith) in
    let inside : v < 256 = omega arith in
    let next = byte_ror m.value v k h e in
    same _ _ (omega arith) (byte_sign v _ _ inside (omega arith))

word_turned_left : (m : Shifted) (k : ℕ) → m.value < 65536 →
    record {
      value = rotated 65536 m.value (suc k % 16) % 65536;
      carry = nat_eq (rotated 65536 m.value (suc k % 16) % 2) 1;
    } ≡ moves RotateLeft Word (suc k) m
unfolding moves
word_turned_left m k h =
    let v = (moves RotateLeft Word k m).value in
    let e : v ≡ rotated 65536 m.value (k % 16) = rotates_left Word m k h in
    let below = word_below m.value (suc k % 16) h (omega arith) in
    let next = word_rol m.value v k h e in
    let few = bit_le (nat_le 32768 v) in
    same _ _ (omega arith) (read_bit (nat_le 32768 v) _ (omega arith))

word_sign : (v r : ℕ) (b : Bool) → v < 65536 → r ≡ v / 2 + from_bool b * 32768 → nat_le 32768 r ≡ b
word_sign v r true h e = grind (arith, nat_tests)
word_sign v r false h e = grind (arith, nat_tests)

word_turned_right : (m : Shifted) (k : ℕ) → m.value < 65536 →
    record {
      value = rotated 65536 m.value (16 - suc k % 16) % 65536;
      carry = nat_le 32768 (rotated 65536 m.value (16 - suc k % 16) % 65536);
    } ≡ moves RotateRight Word (suc k) m
unfolding moves
word_turned_right m k h =
    let v = (moves RotateRight Word k m).value in
    let e : v ≡ rotated 65536 m.value (16 - k % 16) = rotates_right Word m k h in
    let below = word_below m.value (16 - k % 16) h (omega arith) in
    let within = word_below m.value (16 - suc k % 16) h (omega arith) in
    let inside : v < 65536 = omega arith in
    let next = word_ror m.value v k h e in
    same _ _ (omega arith) (word_sign v _ _ inside (omega arith))

-- ROL and ROR by at least one bit
pub turned_left : (w : Width) (m : Shifted) (count : ℕ) → m.value < size w → 0 < count →
    record {
      value = rotated (size w) m.value (count % bits_of w) % size w;
      carry = nat_eq (rotated (size w) m.value (count % bits_of w) % 2) 1;
    } ≡ moves RotateLeft w count m
turned_left w m zero h s = absurd (omega arith)
turned_left Byte m (suc k) h s = byte_turned_left m k h
turned_left Word m (suc k) h s = word_turned_left m k h

pub turned_right : (w : Width) (m : Shifted) (count : ℕ) → m.value < size w → 0 < count →
    record {
      value = rotated (size w) m.value (bits_of w - count % bits_of w) % size w;
      carry = nat_le (half w) (rotated (size w) m.value (bits_of w - count % bits_of w) % size w);
    }
    ≡ moves RotateRight w count m
turned_right w m zero h s = absurd (omega arith)
turned_right Byte m (suc k) h s = byte_turned_right m k h
turned_right Word m (suc k) h s = word_turned_right m k h

byte_carry_above : (n : ℕ) (c : Bool) → n < 256 → nat_le 256 (n + from_bool c * 256) ≡ c
byte_carry_above n true h = grind (arith, nat_tests)
byte_carry_above n false h = grind (arith, nat_tests)

byte_rcl : (y z : ℕ) (t : Bool) → y < 512 → z ≡ y * 2 % 512 + y * 2 / 512 → t ≡ nat_le 256 y →
    y % 256 * 2 % 256 + from_bool t ≡ z % 256
byte_rcl y z true h e f = grind (arith, nat_tests)
byte_rcl y z false h e f = grind (arith, nat_tests)

byte_rcl_carry : (y z : ℕ) → y < 512 → z ≡ y * 2 % 512 + y * 2 / 512 → nat_le 128 (y % 256) ≡ nat_le 256 z
byte_rcl_carry y z h e = grind (arith, nat_tests)

byte_rcr : (y z : ℕ) (t : Bool) → y < 512 → z ≡ y / 2 + y % 2 * 256 → t ≡ nat_le 256 y →
    y % 256 / 2 + from_bool t * 128 ≡ z % 256
byte_rcr y z true h e f = grind (arith, nat_tests)
byte_rcr y z false h e f = grind (arith, nat_tests)

byte_rcr_carry : (y z : ℕ) → y < 512 → z ≡ y / 2 + y % 2 * 256 → nat_eq (y % 256 % 2) 1 ≡ nat_le 256 z
byte_rcr_carry y z h e = grind (arith, nat_tests)

byte_through_left : (m : Shifted) (count : ℕ) → m.value < 256 →
    record {
      value = rotated 512 (with_carry_above Byte m) (count % 9) % 256;
      carry = nat_le 256 (rotated 512 (with_carry_above Byte m) (count % 9));
    }
    ≡ moves RotateThroughCarryLeft Byte count m
unfolding moves
byte_through_left m zero h =
    let few = bit_le m.carry in
    let whole : rotated 512 (with_carry_above Byte m) 0 ≡ with_carry_above Byte m = omega arith in
    same _ _ (omega arith) (ap (nat_le 256) whole ∙ byte_carry_above m.value m.carry h)
byte_through_left m (suc k) h =
    let few = bit_le m.carry in
    let x = with_carry_above Byte m in
    let inside : x < 512 = omega arith in
    let y = rotated 512 x (k % 9) in
    let below : y < 512 = nine_below x (k % 9) inside (omega arith) in
    let period : suc k % 9 ≡ suc (k % 9) % 9 = omega arith in
    let next : rotated 512 x (suc k % 9) ≡ y * 2 % 512 + y * 2 / 512 = ap (rotated 512 x) period
    ∙ nine_left x (k % 9) inside (omega arith) in
    sym (same (one_move RotateThroughCarryLeft Byte (record { value = y % 256; carry = nat_le 256 y }))
    (record { value = rotated 512 x (suc k % 9) % 256; carry = nat_le 256 (rotated 512 x (suc k % 9)) })
    (byte_rcl y _ _ below next refl) (byte_rcl_carry y _ below next))
    ∙ ap (one_move RotateThroughCarryLeft Byte) (byte_through_left m k h)

byte_through_right : (m : Shifted) (count : ℕ) → m.value < 256 →
    record {
      value = rotated 512 (with_carry_above Byte m) (9 - count % 9) % 256;
      carry = nat_le 256 (rotated 512 (with_carry_above Byte m) (9 - count % 9));
    }
    ≡ moves RotateThroughCarryRight Byte count m
unfolding moves
byte_through_right m zero h =
    let few = bit_le m.carry in
    let whole : rotated 512 (with_carry_above Byte m) 9 ≡ with_carry_above Byte m = omega arith in
    same _ _ (omega arith) (ap (nat_le 256) whole ∙ byte_carry_above m.value m.carry h)
byte_through_right m (suc k) h =
    let few = bit_le m.carry in
    let x = with_carry_above Byte m in
    let inside : x < 512 = omega arith in
    let y = rotated 512 x (9 - k % 9) in
    let below : y < 512 = nine_below x (9 - k % 9) inside (omega arith) in
    let period : 9 - suc k % 9 ≡ 9 - suc (k % 9) % 9 = omega arith in
    let next : rotated 512 x (9 - suc k % 9) ≡ y / 2 + y % 2 * 256 = ap (rotated 512 x) period
    ∙ nine_right x (k % 9) inside (omega arith) in
    sym (same (one_move RotateThroughCarryRight Byte (record { value = y % 256; carry = nat_le 256 y }))
    (record { value = rotated 512 x (9 - suc k % 9) % 256; carry = nat_le 256 (rotated 512 x (9 - suc k % 9)) })
    (byte_rcr y _ _ below next refl) (byte_rcr_carry y _ below next))
    ∙ ap (one_move RotateThroughCarryRight Byte) (byte_through_right m k h)

word_carry_above : (n : ℕ) (c : Bool) → n < 65536 → nat_le 65536 (n + from_bool c * 65536) ≡ c
word_carry_above n true h = grind (arith, nat_tests)
word_carry_above n false h = grind (arith, nat_tests)

word_rcl : (y z : ℕ) (t : Bool) → y < 131072 → z ≡ y * 2 % 131072 + y * 2 / 131072 → t ≡ nat_le 65536 y →
    y % 65536 * 2 % 65536 + from_bool t ≡ z % 65536
word_rcl y z true h e f = grind (arith, nat_tests)
word_rcl y z false h e f = grind (arith, nat_tests)

word_rcl_carry : (y z : ℕ) → y < 131072 → z ≡ y * 2 % 131072 + y * 2 / 131072 →
    nat_le 32768 (y % 65536) ≡ nat_le 65536 z
word_rcl_carry y z h e = grind (arith, nat_tests)

word_rcr : (y z : ℕ) (t : Bool) → y < 131072 → z ≡ y / 2 + y % 2 * 65536 → t ≡ nat_le 65536 y →
    y % 65536 / 2 + from_bool t * 32768 ≡ z % 65536
word_rcr y z true h e f = grind (arith, nat_tests)
word_rcr y z false h e f = grind (arith, nat_tests)

word_rcr_carry : (y z : ℕ) → y < 131072 → z ≡ y / 2 + y % 2 * 65536 → nat_eq (y % 65536 % 2) 1 ≡ nat_le 65536 z
word_rcr_carry y z h e = grind (arith, nat_tests)

word_through_left : (m : Shifted) (count : ℕ) → m.value < 65536 →
    record {
      value = rotated 131072 (with_carry_above Word m) (count % 17) % 65536;
      carry = nat_le 65536 (rotated 131072 (with_carry_above Word m) (count % 17));
    }
    ≡ moves RotateThroughCarryLeft Word count m
unfolding moves
word_through_left m zero h =
    let few = bit_le m.carry in
    let whole : rotated 131072 (with_carry_above Word m) 0 ≡ with_carry_above Word m = omega arith in
    same _ _ (omega arith) (ap (nat_le 65536) whole ∙ word_carry_above m.value m.carry h)
word_through_left m (suc k) h =
    let few = bit_le m.carry in
    let x = with_carry_above Word m in
    let inside : x < 131072 = omega arith in
    let y = rotated 131072 x (k % 17) in
    let below : y < 131072 = seventeen_below x (k % 17) inside (omega arith) in
    let period : suc k % 17 ≡ suc (k % 17) % 17 = omega arith in
    let next : rotated 131072 x (suc k % 17) ≡ y * 2 % 131072 + y * 2 / 131072 = ap (rotated 131072 x) period
    ∙ seventeen_left x (k % 17) inside (omega arith) in
    sym (same (one_move RotateThroughCarryLeft Word (record { value = y % 65536; carry = nat_le 65536 y }))
    (record { value = rotated 131072 x (suc k % 17) % 65536; carry = nat_le 65536 (rotated 131072 x (suc k % 17)) })
    (word_rcl y _ _ below next refl) (word_rcl_carry y _ below next))
    ∙ ap (one_move RotateThroughCarryLeft Word) (word_through_left m k h)

word_through_right : (m : Shifted) (count : ℕ) → m.value < 65536 →
    record {
      value = rotated 131072 (with_carry_above Word m) (17 - count % 17) % 65536;
      carry = nat_le 65536 (rotated 131072 (with_carry_above Word m) (17 - count % 17));
    }
    ≡ moves RotateThroughCarryRight Word count m
unfolding moves
word_through_right m zero h =
    let few = bit_le m.carry in
    let whole : rotated 131072 (with_carry_above Word m) 17 ≡ with_carry_above Word m = omega arith in
    same _ _ (omega arith) (ap (nat_le 65536) whole ∙ word_carry_above m.value m.carry h)
word_through_right m (suc k) h =
    let few = bit_le m.carry in
    let x = with_carry_above Word m in
    let inside : x < 131072 = omega arith in
    let y = rotated 131072 x (17 - k % 17) in
    let below : y < 131072 = seventeen_below x (17 - k % 17) inside (omega arith) in
    let period : 17 - suc k % 17 ≡ 17 - suc (k % 17) % 17 = omega arith in
    let next : rotated 131072 x (17 - suc k % 17) ≡ y / 2 + y % 2 * 65536 = ap (rotated 131072 x) period
    ∙ seventeen_right x (k % 17) inside (omega arith) in
    sym (same (one_move RotateThroughCarryRight Word (record { value = y % 65536; carry = nat_le 65536 y }))
    (record {
      value = rotated 131072 x (17 - suc k % 17) % 65536;
      carry = nat_le 65536 (rotated 131072 x (17 - suc k % 17));
    })
    (word_rcr y _ _ below next refl) (word_rcr_carry y _ below next))
    ∙ ap (one_move RotateThroughCarryRight Word) (word_through_right m k h)

-- RCL and RCR
pub through_left : (w : Width) (m : Shifted) (count : ℕ) → m.value < size w →
    record {
      value = rotated (2 * size w) (with_carry_above w m) (count % (bits_of w + 1)) % size w;
      carry = nat_le (size w) (rotated (2 * size w) (with_carry_above w m) (count % (bits_of w + 1)));
    }
    ≡ moves RotateThroughCarryLeft w count m
through_left Byte m count h = byte_through_left m count h
through_left Word m count h = word_through_left m count h

pub through_right : (w : Width) (m : Shifted) (count : ℕ) → m.value < size w →
    record {
      value = rotated (2 * size w) (with_carry_above w m) (bits_of w + 1 - count % (bits_of w + 1)) % size w;
      carry = nat_le (size w) (rotated (2 * size w) (with_carry_above w m) (bits_of w + 1
          - count % (bits_of w + 1)));
    } ≡ moves RotateThroughCarryRight w count m
through_right Byte m count h = byte_through_right m count h
through_right Word m count h = word_through_right m count h

-- SHL: the bits move up out of the value, past which the carry is the lowest
doubles : (x k : ℕ) → k < 17 → x * 2 ^ suc k ≡ x * 2 ^ k * 2
doubles x (suc (suc (suc (suc (suc (suc (suc (suc (suc (suc (suc (suc (suc (suc (suc (suc zero)))))))))))))))) l =
    omega arith
doubles x k l = omega arith

-- a count of at most 17
capped : (k : ℕ) (b : Bool) → b ≡ nat_lt k 17 → min k 17 ≡ (if b then k else 17)
capped k true e = grind (arith, nat_tests)
capped k false e = grind (arith, nat_tests)

byte_left_by : (m : Shifted) (k : ℕ) (b : Bool) → b ≡ nat_lt k 17 → m.value < 256 →
    one_move Left Byte (record {
      value = with_carry_above Byte m * 2 ^ min k 17 % 256;
      carry = nat_eq (with_carry_above Byte m * 2 ^ min k 17 / 256 % 2) 1;
    }) ≡
    record {
      value = with_carry_above Byte m * 2 ^ min (suc k) 17 % 256;
      carry = nat_eq (with_carry_above Byte m * 2 ^ min (suc k) 17 / 256 % 2) 1;
    }
byte_left_by m k true e h =
    let small : k < 17 = grind (arith, nat_tests) in
    let before : min k 17 ≡ k = omega arith in
    let after : min (suc k) 17 ≡ suc k = omega arith in
    let x = with_carry_above Byte m in
    let y = x * 2 ^ min k 17 in
    let twice : x * 2 ^ min (suc k) 17 ≡ y * 2 = ap (λ j. x * 2 ^ j) after ∙ doubles x k small
    ∙ ap (λ j. x * 2 ^ j * 2) (sym before) in
    same _ _ (omega arith) (grind (arith, nat_tests))
byte_left_by m k false e h =
    let large : 17 ≤ k = grind (arith, nat_tests) in
    let before : min k 17 ≡ 17 = omega arith in
    let after : min (suc k) 17 ≡ 17 = omega arith in
    let x = with_carry_above Byte m in
    let first : x * 2 ^ min k 17 ≡ x * 131072 = ap (λ j. x * 2 ^ j) before in
    let second : x * 2 ^ min (suc k) 17 ≡ x * 131072 = ap (λ j. x * 2 ^ j) after in
    same _ _ (omega arith) (grind (arith, nat_tests))

byte_read_above : (n : ℕ) (c : Bool) → n < 256 → nat_eq ((n + from_bool c * 256) / 256 % 2) 1 ≡ c
byte_read_above n true h = grind (arith, nat_tests)
byte_read_above n false h = grind (arith, nat_tests)

byte_moved_left : (m : Shifted) (count : ℕ) → m.value < 256 →
    record {
      value = with_carry_above Byte m * 2 ^ min count 17 % 256;
      carry = nat_eq (with_carry_above Byte m * 2 ^ min count 17 / 256 % 2) 1;
    } ≡ moves Left Byte count m
unfolding moves
byte_moved_left m zero h =
    let few = bit_le m.carry in
    let whole : with_carry_above Byte m * 2 ^ min zero 17 ≡ with_carry_above Byte m = omega arith in
    same _ _ (omega arith) (ap (λ x. nat_eq (x / 256 % 2) 1) whole ∙ byte_read_above m.value m.carry h)
byte_moved_left m (suc k) h = sym (byte_left_by m k _ refl h) ∙ ap (one_move Left Byte) (byte_moved_left m k h)

word_left_by : (m : Shifted) (k : ℕ) (b : Bool) → b ≡ nat_lt k 17 → m.value < 65536 →
    one_move Left Word (record {
      value = with_carry_above Word m * 2 ^ min k 17 % 65536;
      carry = nat_eq (with_carry_above Word m * 2 ^ min k 17 / 65536 % 2) 1;
    }) ≡
    record {
      value = with_carry_above Word m * 2 ^ min (suc k) 17 % 65536;
      carry = nat_eq (with_carry_above Word m * 2 ^ min (suc k) 17 / 65536 % 2) 1;
    }
word_left_by m k true e h =
    let small : k < 17 = grind (arith, nat_tests) in
    let before : min k 17 ≡ k = omega arith in
    let after : min (suc k) 17 ≡ suc k = omega arith in
    let x = with_carry_above Word m in
    let y = x * 2 ^ min k 17 in
    let twice : x * 2 ^ min (suc k) 17 ≡ y * 2 = ap (λ j. x * 2 ^ j) after ∙ doubles x k small
    ∙ ap (λ j. x * 2 ^ j * 2) (sym before) in
    same _ _ (omega arith) (grind (arith, nat_tests))
word_left_by m k false e h =
    let large : 17 ≤ k = grind (arith, nat_tests) in
    let before : min k 17 ≡ 17 = omega arith in
    let after : min (suc k) 17 ≡ 17 = omega arith in
    let x = with_carry_above Word m in
    let first : x * 2 ^ min k 17 ≡ x * 131072 = ap (λ j. x * 2 ^ j) before in
    let second : x * 2 ^ min (suc k) 17 ≡ x * 131072 = ap (λ j. x * 2 ^ j) after in
    same _ _ (omega arith) (grind (arith, nat_tests))

word_read_above : (n : ℕ) (c : Bool) → n < 65536 → nat_eq ((n + from_bool c * 65536) / 65536 % 2) 1 ≡ c
word_read_above n true h = grind (arith, nat_tests)
word_read_above n false h = grind (arith, nat_tests)

word_moved_left : (m : Shifted) (count : ℕ) → m.value < 65536 →
    record {
      value = with_carry_above Word m * 2 ^ min count 17 % 65536;
      carry = nat_eq (with_carry_above Word m * 2 ^ min count 17 / 65536 % 2) 1;
    } ≡ moves Left Word count m
unfolding moves
word_moved_left m zero h =
    let few = bit_le m.carry in
    let whole : with_carry_above Word m * 2 ^ min zero 17 ≡ with_carry_above Word m = omega arith in
    same _ _ (omega arith) (ap (λ x. nat_eq (x / 65536 % 2) 1) whole ∙ word_read_above m.value m.carry h)
word_moved_left m (suc k) h = sym (word_left_by m k _ refl h) ∙ ap (one_move Left Word) (word_moved_left m k h)

-- SHR: the bits move down, the lowest one into the carry
halves : (x k : ℕ) → x < 131072 → k < 17 → x / 2 ^ suc k ≡ x / 2 ^ k / 2
halves x (suc (suc (suc (suc (suc (suc (suc (suc (suc (suc (suc (suc (suc (suc (suc (suc zero)))))))))))))))) h l =
    omega arith
halves x k h l = omega arith

halves_by : (x k : ℕ) (b : Bool) → b ≡ nat_lt k 17 → x < 131072 → x / 2 ^ min (suc k) 17 ≡ x / 2 ^ min k 17 / 2
halves_by x k true e h =
    let small : k < 17 = grind (arith, nat_tests) in
    let before : min k 17 ≡ k = omega arith in
    let after : min (suc k) 17 ≡ suc k = omega arith in
    ap (λ j. x / 2 ^ j) after ∙ halves x k h small ∙ ap (λ j. x / 2 ^ j / 2) (sym before)
halves_by x k false e h =
    let large : 17 ≤ k = grind (arith, nat_tests) in
    let before : min k 17 ≡ 17 = omega arith in
    let after : min (suc k) 17 ≡ 17 = omega arith in
    let first : x / 2 ^ min k 17 ≡ x / 131072 = ap (λ j. x / 2 ^ j) before in
    let second : x / 2 ^ min (suc k) 17 ≡ x / 131072 = ap (λ j. x / 2 ^ j) after in
    omega arith

smaller : (x k : ℕ) → x / 2 ^ k ≤ x
smaller x k = div-le_self x (2 ^ k)

read_below : (n : ℕ) (c : Bool) → nat_eq ((n * 2 + from_bool c) % 2) 1 ≡ c
read_below n true = grind (arith, nat_tests)
read_below n false = grind (arith, nat_tests)

read_turned : (N n : ℕ) (c : Bool) → n < N → nat_eq ((2 * N - 1 - (n * 2 + from_bool c)) % 2) 0 ≡ c
read_turned N n true h = grind (arith, nat_tests)
read_turned N n false h = grind (arith, nat_tests)

even_or_odd : (v z : ℕ) (b : Bool) → v % 2 + z % 2 ≡ 1 → b ≡ nat_eq (v % 2) 1 → b ≡ nat_eq (z % 2) 0
even_or_odd v z true e f = grind (arith, nat_tests)
even_or_odd v z false e f = grind (arith, nat_tests)

byte_moved_right : (m : Shifted) (count : ℕ) → m.value < 256 →
    record {
      value = with_carry_below m / 2 ^ min count 17 / 2;
      carry = nat_eq (with_carry_below m / 2 ^ min count 17 % 2) 1;
    } ≡ moves LogicalRight Byte count m
unfolding moves
byte_moved_right m zero h =
    let few = bit_le m.carry in
    let whole : with_carry_below m / 2 ^ min zero 17 ≡ with_carry_below m = omega arith in
    same _ _ (omega arith) (ap (λ x. nat_eq (x % 2) 1) whole ∙ read_below m.value m.carry)
byte_moved_right m (suc k) h =
    let few = bit_le m.carry in
    let next = halves_by (with_carry_below m) k _ refl (omega arith) in
    sym (same (one_move LogicalRight Byte (record {
      value = with_carry_below m / 2 ^ min k 17 / 2;
      carry = nat_eq (with_carry_below m / 2 ^ min k 17 % 2) 1;
    })) _
    (omega arith) (ap (λ x. nat_eq (x % 2) 1) (sym next))) ∙ ap (one_move LogicalRight Byte) (byte_moved_right m k h)

-- SAR of a value that is not negative, and of one that is
byte_stays : (v : ℕ) → v < 128 → nat_le 128 v ≡ false
byte_stays v h = grind (arith, nat_tests)

byte_is_under : (v : ℕ) → nat_le 128 v ≡ false → v < 128
byte_is_under v e = grind (arith, nat_tests)

byte_moved_right_positive : (m : Shifted) (count : ℕ) → m.value < 128 →
    record {
      value = with_carry_below m / 2 ^ min count 17 / 2;
      carry = nat_eq (with_carry_below m / 2 ^ min count 17 % 2) 1;
    } ≡ moves ArithmeticRight Byte count m
unfolding moves
byte_moved_right_positive m zero h =
    let few = bit_le m.carry in
    let whole : with_carry_below m / 2 ^ min zero 17 ≡ with_carry_below m = omega arith in
    same _ _ (omega arith) (ap (λ x. nat_eq (x % 2) 1) whole ∙ read_below m.value m.carry)
byte_moved_right_positive m (suc k) h =
    let few = bit_le m.carry in
    let next = halves_by (with_carry_below m) k _ refl (omega arith) in
    let down = smaller (with_carry_below m) (min k 17) in
    let low : nat_le 128 (with_carry_below m / 2 ^ min k 17 / 2) ≡ false = byte_stays _ (omega arith) in
    sym (same (one_move ArithmeticRight Byte (record {
      value = with_carry_below m / 2 ^ min k 17 / 2;
      carry = nat_eq (with_carry_below m / 2 ^ min k 17 % 2) 1;
    })) _
    (ap (λ b. with_carry_below m / 2 ^ min k 17 / 2 / 2 + from_bool b * 128) low
    ∙ omega arith) (ap (λ x. nat_eq (x % 2) 1) (sym next)))
    ∙ ap (one_move ArithmeticRight Byte) (byte_moved_right_positive m k h)

byte_is_over : (v : ℕ) → 128 ≤ v → nat_le 128 v ≡ true
byte_is_over v h = grind (arith, nat_tests)

byte_moved_right_negative : (m : Shifted) (count : ℕ) → 128 ≤ m.value → m.value < 256 →
    record {
      value = 255 - (511 - with_carry_below m) / 2 ^ min count 17 / 2;
      carry = nat_eq ((511 - with_carry_below m) / 2 ^ min count 17 % 2) 0;
    } ≡ moves ArithmeticRight Byte count m
unfolding moves
byte_moved_right_negative m zero g h =
    let few = bit_le m.carry in
    let whole : (511 - with_carry_below m) / 2 ^ min zero 17 ≡ 511 - with_carry_below m = omega arith in
    same _ _ (omega arith) (ap (λ x. nat_eq (x % 2) 0) whole ∙ read_turned 256 m.value m.carry h)
byte_moved_right_negative m (suc k) g h =
    let few = bit_le m.carry in
    let x = 511 - with_carry_below m in
    let next = halves_by x k _ refl (omega arith) in
    let down = smaller x (min k 17) in
    let v = 255 - x / 2 ^ min k 17 / 2 in
    let high : nat_le 128 v ≡ true = byte_is_over _ (omega arith) in
    sym (same (one_move ArithmeticRight Byte (record { value = v; carry = nat_eq (x / 2 ^ min k 17 % 2) 0 })) _
    (ap (λ b. v / 2 + from_bool b * 128) high ∙ omega arith) (even_or_odd v (x / 2 ^ min (suc k) 17) _
    (omega arith) refl)) ∙ ap (one_move ArithmeticRight Byte) (byte_moved_right_negative m k g h)

word_moved_right : (m : Shifted) (count : ℕ) → m.value < 65536 →
    record {
      value = with_carry_below m / 2 ^ min count 17 / 2;
      carry = nat_eq (with_carry_below m / 2 ^ min count 17 % 2) 1;
    } ≡ moves LogicalRight Word count m
unfolding moves
word_moved_right m zero h =
    let few = bit_le m.carry in
    let whole : with_carry_below m / 2 ^ min zero 17 ≡ with_carry_below m = omega arith in
    same _ _ (omega arith) (ap (λ x. nat_eq (x % 2) 1) whole ∙ read_below m.value m.carry)
word_moved_right m (suc k) h =
    let few = bit_le m.carry in
    let next = halves_by (with_carry_below m) k _ refl (omega arith) in
    sym (same (one_move LogicalRight Word (record {
      value = with_carry_below m / 2 ^ min k 17 / 2;
      carry = nat_eq (with_carry_below m / 2 ^ min k 17 % 2) 1;
    })) _
    (omega arith) (ap (λ x. nat_eq (x % 2) 1) (sym next))) ∙ ap (one_move LogicalRight Word) (word_moved_right m k h)

-- SAR of a value that is not negative, and of one that is
word_stays : (v : ℕ) → v < 32768 → nat_le 32768 v ≡ false
word_stays v h = grind (arith, nat_tests)

word_is_under : (v : ℕ) → nat_le 32768 v ≡ false → v < 32768
word_is_under v e = grind (arith, nat_tests)

word_moved_right_positive : (m : Shifted) (count : ℕ) → m.value < 32768 →
    record {
      value = with_carry_below m / 2 ^ min count 17 / 2;
      carry = nat_eq (with_carry_below m / 2 ^ min count 17 % 2) 1;
    } ≡ moves ArithmeticRight Word count m
unfolding moves
word_moved_right_positive m zero h =
    let few = bit_le m.carry in
    let whole : with_carry_below m / 2 ^ min zero 17 ≡ with_carry_below m = omega arith in
    same _ _ (omega arith) (ap (λ x. nat_eq (x % 2) 1) whole ∙ read_below m.value m.carry)
word_moved_right_positive m (suc k) h =
    let few = bit_le m.carry in
    let next = halves_by (with_carry_below m) k _ refl (omega arith) in
    let down = smaller (with_carry_below m) (min k 17) in
    let low : nat_le 32768 (with_carry_below m / 2 ^ min k 17 / 2) ≡ false = word_stays _ (omega arith) in
    sym (same (one_move ArithmeticRight Word (record {
      value = with_carry_below m / 2 ^ min k 17 / 2;
      carry = nat_eq (with_carry_below m / 2 ^ min k 17 % 2) 1;
    })) _
    (ap (λ b. with_carry_below m / 2 ^ min k 17 / 2 / 2 + from_bool b * 32768) low
    ∙ omega arith) (ap (λ x. nat_eq (x % 2) 1) (sym next)))
    ∙ ap (one_move ArithmeticRight Word) (word_moved_right_positive m k h)

word_is_over : (v : ℕ) → 32768 ≤ v → nat_le 32768 v ≡ true
word_is_over v h = grind (arith, nat_tests)

word_moved_right_negative : (m : Shifted) (count : ℕ) → 32768 ≤ m.value → m.value < 65536 →
    record {
      value = 65535 - (131071 - with_carry_below m) / 2 ^ min count 17 / 2;
      carry = nat_eq ((131071 - with_carry_below m) / 2 ^ min count 17 % 2) 0;
    } ≡ moves ArithmeticRight Word count m
unfolding moves
word_moved_right_negative m zero g h =
    let few = bit_le m.carry in
    let whole : (131071 - with_carry_below m) / 2 ^ min zero 17 ≡ 131071 - with_carry_below m = omega arith in
    same _ _ (omega arith) (ap (λ x. nat_eq (x % 2) 0) whole ∙ read_turned 65536 m.value m.carry h)
word_moved_right_negative m (suc k) g h =
    let few = bit_le m.carry in
    let x = 131071 - with_carry_below m in
    let next = halves_by x k _ refl (omega arith) in
    let down = smaller x (min k 17) in
    let v = 65535 - x / 2 ^ min k 17 / 2 in
    let high : nat_le 32768 v ≡ true = word_is_over _ (omega arith) in
    sym (same (one_move ArithmeticRight Word (record { value = v; carry = nat_eq (x / 2 ^ min k 17 % 2) 0 })) _
    (ap (λ b. v / 2 + from_bool b * 32768) high ∙ omega arith) (even_or_odd v (x / 2 ^ min (suc k) 17) _
    (omega arith) refl)) ∙ ap (one_move ArithmeticRight Word) (word_moved_right_negative m k g h)

-- SHL, SHR and SAR
pub moved_left : (w : Width) (m : Shifted) (count : ℕ) → m.value < size w →
    record {
      value = with_carry_above w m * 2 ^ min count 17 % size w;
      carry = nat_eq (with_carry_above w m * 2 ^ min count 17 / size w % 2) 1;
    } ≡ moves Left w count m
moved_left Byte m count h = byte_moved_left m count h
moved_left Word m count h = word_moved_left m count h

pub moved_right : (w : Width) (m : Shifted) (count : ℕ) → m.value < size w →
    record {
      value = with_carry_below m / 2 ^ min count 17 / 2;
      carry = nat_eq (with_carry_below m / 2 ^ min count 17 % 2) 1;
    } ≡ moves LogicalRight w count m
moved_right Byte m count h = byte_moved_right m count h
moved_right Word m count h = word_moved_right m count h

pub moved_right_positive : (w : Width) (m : Shifted) (count : ℕ) → m.value < half w →
    record {
      value = with_carry_below m / 2 ^ min count 17 / 2;
      carry = nat_eq (with_carry_below m / 2 ^ min count 17 % 2) 1;
    } ≡ moves ArithmeticRight w count m
moved_right_positive Byte m count h = byte_moved_right_positive m count h
moved_right_positive Word m count h = word_moved_right_positive m count h

pub moved_right_negative : (w : Width) (m : Shifted) (count : ℕ) → half w ≤ m.value → m.value < size w →
    record {
      value = size w - 1 - (2 * size w - 1 - with_carry_below m) / 2 ^ min count 17 / 2;
      carry = nat_eq ((2 * size w - 1 - with_carry_below m) / 2 ^ min count 17 % 2) 0;
    }
    ≡ moves ArithmeticRight w count m
moved_right_negative Byte m count g h = byte_moved_right_negative m count g h
moved_right_negative Word m count g h = word_moved_right_negative m count g h

pub size_le : (w : Width) → size w ≤ 65536
size_le Byte = omega arith
size_le Word = omega arith

-- no move at all
pub unmoved : (o : ShiftOperation) (w : Width) (k : ℕ) (m : Shifted) → k ≡ 0 → m ≡ moves o w k m
unfolding moves
unmoved o w k m e = ap (λ j. moves o w j m) (sym e)
