-- SHR and SAR by some bits, at least one: the carry is the bit that goes out last.
use Rattle.std.proofs.Common.{◌≡◌, ◌∙◌, ◌≤◌, ◌<◌, ◌+◌, ◌*◌, ◌-◌, ◌/◌, ◌%◌, ◌^◌, ℕ, Bool, true, false, ap, refl, sym, arith, if◌then◌else◌, min, nat_le, nat_eq}
use Rattle.std.specs.Int.{from_bool}
use Rattle.std.proofs.lemmas.Bool.Decides.{nat_tests}
use Rattle.std.proofs.lemmas.Nat.{shr_le, shr-shr}
use Rattle.dm_alu.specs.declared.width.Width.{Width}
use Rattle.dm_alu.specs.declared.width.Width.TheVariants.{Byte, Word}
use Rattle.dm_alu.specs.declared.shifts.Shifted.{Shifted}
use Rattle.dm_alu.specs.declared.shifts.ShiftOperation.TheVariants.{ArithmeticRight, LogicalRight}
use Rattle.dm_alu.specs.Width.{size, half, is_negative}
use Rattle.dm_alu.specs.Shifts.{moves}
use Rattle.dm_alu.proofs.Bits.{bit_le}
use Rattle.dm_alu.proofs.Back.{byte_sign, byte_last, word_sign, word_last}
use Rattle.dm_alu.proofs.Rotations.{moved_right, moved_right_negative, moved_right_positive}
use Rattle.dm_alu.specs.inner.Rotations.{with_carry_below, with_sign_above}

-- a value and its carry by their parts
same : (p q : Shifted) → p.value ≡ q.value → p.carry ≡ q.carry → p ≡ q
same p q e f = λ i. record { value = e i; carry = f i }

odd_or_even : (a b : ℕ) → b < 2 → a ≡ 1 - b → nat_eq a 1 ≡ nat_eq b 0
odd_or_even a b h e = grind (arith, nat_tests)

below : (w : Width) (x : ℕ) → x < size w → x % size w ≡ x
below Byte x h = omega arith
below Word x h = omega arith

-- a number whose lowest bit is a carry, moved by some bits: what is above, and the last bit that goes out
halved : (x t b m : ℕ) → x ≡ 2 * t + b → b < 2 → x / 2 ^ m / 2 ≡ t / 2 ^ m
halved x t b m e h =
    let half : x / 2 ≡ t = omega arith in
    let turn : m + 1 ≡ 1 + m = omega arith in
    shr-shr x m 1 ∙ ap (λ j. x / 2 ^ j) turn ∙ sym (shr-shr x 1 m) ∙ ap (λ n. n / 2 ^ m) half

last_out : (x t b m : ℕ) → x ≡ 2 * t + b → b < 2 → 0 < m → x / 2 ^ m ≡ t / 2 ^ (m - 1)
last_out x t b m e h s =
    let half : x / 2 ≡ t = omega arith in
    let turn : m ≡ 1 + (m - 1) = omega arith in
    ap (λ j. x / 2 ^ j) turn ∙ sym (shr-shr x 1 (m - 1)) ∙ ap (λ n. n / 2 ^ (m - 1)) half

some_of : (count : ℕ) → 0 < count → 0 < min count 17
some_of count s = omega arith

few_of : (count : ℕ) → min count 16 ≤ 16
few_of count = omega arith

fewer_of : (count : ℕ) → min count 16 - 1 ≤ 16
fewer_of count = omega arith

-- 16 moves do to a value what more do
high_by : (t count : ℕ) (b : Bool) → b ≡ nat_le count 16 → t < 65536 → t / 2 ^ min count 16 ≡ t / 2 ^ min count 17
high_by t count true e h =
    let same : min count 16 ≡ min count 17 = grind (arith, nat_tests) in
    ap (λ j. t / 2 ^ j) same
high_by t count false e h =
    let large : 17 ≤ count = grind (arith, nat_tests) in
    let first : min count 16 ≡ 16 = omega arith in
    let second : min count 17 ≡ 17 = omega arith in
    let left : t / 2 ^ min count 16 ≡ t / 65536 = ap (λ j. t / 2 ^ j) first in
    let right : t / 2 ^ min count 17 ≡ t / 131072 = ap (λ j. t / 2 ^ j) second in
    omega arith

same_high : (t count : ℕ) → t < 65536 → t / 2 ^ min count 16 ≡ t / 2 ^ min count 17
same_high t count h = high_by t count _ refl h

last_by : (t count : ℕ) (b : Bool) → b ≡ nat_le count 16 → t < 32768 → t / 2 ^ (min count 16 - 1)
    ≡ t / 2 ^ (min count 17 - 1)
last_by t count true e h =
    let same : min count 16 - 1 ≡ min count 17 - 1 = grind (arith, nat_tests) in
    ap (λ j. t / 2 ^ j) same
last_by t count false e h =
    let large : 17 ≤ count = grind (arith, nat_tests) in
    let first : min count 16 - 1 ≡ 15 = omega arith in
    let second : min count 17 - 1 ≡ 16 = omega arith in
    let left : t / 2 ^ (min count 16 - 1) ≡ t / 32768 = ap (λ j. t / 2 ^ j) first in
    let right : t / 2 ^ (min count 17 - 1) ≡ t / 65536 = ap (λ j. t / 2 ^ j) second in
    omega arith

same_last : (t count : ℕ) → t < 32768 → t / 2 ^ (min count 16 - 1) ≡ t / 2 ^ (min count 17 - 1)
same_last t count h = last_by t count _ refl h

-- SHR
pub right_by : (w : Width) (m : Shifted) (count : ℕ) → m.value < size w → 0 < count →
    record { value = m.value / 2 ^ min count 17; carry = nat_eq (m.value / 2 ^ (min count 17 - 1) % 2) 1 }
    ≡ moves LogicalRight w count m
right_by w m count h s =
    let few = bit_le m.carry in
    let x = with_carry_below m in
    let whole : x ≡ 2 * m.value + from_bool m.carry = omega arith in
    let one : from_bool m.carry < 2 = omega arith in
    sym (same _ _ (halved x m.value (from_bool m.carry) (min count 17) whole one)
    (ap (λ n. nat_eq (n % 2) 1) (last_out x m.value (from_bool m.carry) (min count 17) whole one (some_of count s))))
    ∙ moved_right w m count h

-- SAR
abbrev seen : Width → ℕ → ℕ → Shifted
seen w x k = record { value = x / 2 ^ k % size w; carry = nat_eq (x / 2 ^ (k - 1) % 2) 1 }

byte_negative : (m : Shifted) (count : ℕ) → 0 < count → m.value < 256 → 128 ≤ m.value →
    seen Byte (4294967040 + m.value) (min count 16) ≡ moves ArithmeticRight Byte count m
byte_negative m count s h g =
    let few = bit_le m.carry in
    let k = min count 16 in
    let t = 255 - m.value in
    let x = 511 - with_carry_below m in
    let e : 4294967040 + m.value ≡ 4294967295 - t = omega arith in
    let whole : x ≡ 2 * t + (1 - from_bool m.carry) = omega arith in
    let one : 1 - from_bool m.carry < 2 = omega arith in
    let top : (4294967040 + m.value) / 2 ^ k % 256 ≡ 255 - x / 2 ^ min count 17 / 2 =
    ap (λ n. n / 2 ^ k % 256) e ∙ byte_sign t k (omega arith) (few_of count)
    ∙ ap (λ n. 255 - n) (same_high t count (omega arith) ∙ sym (halved x t _ (min count 17) whole one)) in
    let out : nat_eq ((4294967040 + m.value) / 2 ^ (k - 1) % 2) 1 ≡ nat_eq (x / 2 ^ min count 17 % 2) 0 =
    ap (λ n. nat_eq (n / 2 ^ (k - 1) % 2) 1) e
    ∙ odd_or_even _ (t / 2 ^ (k - 1) % 2) (omega arith) (byte_last t (k - 1) (omega arith) (fewer_of count))
    ∙ ap (λ n. nat_eq (n % 2) 0) (same_last t count (omega arith)
    ∙ sym (last_out x t _ (min count 17) whole one (some_of count s))) in
    same _ _ top out ∙ moved_right_negative Byte m count g h

word_negative : (m : Shifted) (count : ℕ) → 0 < count → m.value < 65536 → 32768 ≤ m.value →
    seen Word (4294901760 + m.value) (min count 16) ≡ moves ArithmeticRight Word count m
word_negative m count s h g =
    let few = bit_le m.carry in
    let k = min count 16 in
    let t = 65535 - m.value in
    let x = 131071 - with_carry_below m in
    let e : 4294901760 + m.value ≡ 4294967295 - t = omega arith in
    let whole : x ≡ 2 * t + (1 - from_bool m.carry) = omega arith in
    let one : 1 - from_bool m.carry < 2 = omega arith in
    let top : (4294901760 + m.value) / 2 ^ k % 65536 ≡ 65535 - x / 2 ^ min count 17 / 2 =
    ap (λ n. n / 2 ^ k % 65536) e ∙ word_sign t k (omega arith) (few_of count)
    ∙ ap (λ n. 65535 - n) (same_high t count (omega arith) ∙ sym (halved x t _ (min count 17) whole one)) in
    let out : nat_eq ((4294901760 + m.value) / 2 ^ (k - 1) % 2) 1 ≡ nat_eq (x / 2 ^ min count 17 % 2) 0 =
    ap (λ n. nat_eq (n / 2 ^ (k - 1) % 2) 1) e
    ∙ odd_or_even _ (t / 2 ^ (k - 1) % 2) (omega arith) (word_last t (k - 1) (omega arith) (fewer_of count))
    ∙ ap (λ n. nat_eq (n % 2) 0) (same_last t count (omega arith)
    ∙ sym (last_out x t _ (min count 17) whole one (some_of count s))) in
    same _ _ top out ∙ moved_right_negative Word m count g h

fits : (w : Width) (n : ℕ) → n < size w → n < 65536
fits Byte n h = omega arith
fits Word n h = omega arith

fits_half : (w : Width) (n : ℕ) → n < half w → n < 32768
fits_half Byte n h = omega arith
fits_half Word n h = omega arith

positive : (w : Width) (m : Shifted) (count : ℕ) → 0 < count → m.value < half w → m.value < size w →
    seen w (0 + m.value) (min count 16) ≡ moves ArithmeticRight w count m
positive w m count s l h =
    let few = bit_le m.carry in
    let k = min count 16 in
    let x = with_carry_below m in
    let whole : x ≡ 2 * m.value + from_bool m.carry = omega arith in
    let one : from_bool m.carry < 2 = omega arith in
    let e : 0 + m.value ≡ m.value = omega arith in
    let down = shr_le m.value k in
    let inside : m.value / 2 ^ k % size w ≡ m.value / 2 ^ k = below w _ (omega arith) in
    same _ _ (ap (λ n. n / 2 ^ k % size w) e ∙ inside ∙ same_high m.value count (fits w m.value h)
    ∙ sym (halved x m.value _ (min count 17) whole one))
    (ap (λ n. nat_eq (n / 2 ^ (k - 1) % 2) 1) e ∙ ap (λ n. nat_eq (n % 2) 1) (same_last m.value count
    (fits_half w m.value l) ∙ sym (last_out x m.value _ (min count 17) whole one (some_of count s))))
    ∙ moved_right_positive w m count l

by_sign : (w : Width) (m : Shifted) (count : ℕ) (b : Bool) → b ≡ is_negative w m.value → 0 < count → m.value < size w →
    seen w ((if b then 4294967296 - size w else 0) + m.value) (min count 16) ≡ moves ArithmeticRight w count m
by_sign Byte m count true e s h = byte_negative m count s h (grind (arith, nat_tests))
by_sign Word m count true e s h = word_negative m count s h (grind (arith, nat_tests))
by_sign Byte m count false e s h = positive Byte m count s (grind (arith, nat_tests)) h
by_sign Word m count false e s h = positive Word m count s (grind (arith, nat_tests)) h

pub right_by_sign : (w : Width) (m : Shifted) (count : ℕ) → m.value < size w → 0 < count →
    seen w (with_sign_above w m.value) (min count 16) ≡ moves ArithmeticRight w count m
right_by_sign w m count h s = by_sign w m count _ refl s h
