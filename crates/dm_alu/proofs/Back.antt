-- Rotations to the right by two copies of a value side by side, and SAR by a value that is extended by its sign.
use Rattle.std.proofs.Common.{◌≡◌, ◌≤◌, ◌<◌, ◌+◌, ◌*◌, ◌-◌, ◌/◌, ◌%◌, ◌^◌, ℕ, suc, zero, arith, nat_le, nat_eq}
use Rattle.std.proofs.lemmas.Bool.Decides.{nat_tests}
use Rattle.dm_alu.specs.declared.width.Width.{Width}
use Rattle.dm_alu.specs.declared.width.Width.TheVariants.{Byte, Word}
use Rattle.dm_alu.specs.declared.shifts.Shifted.{Shifted}
use Rattle.dm_alu.specs.Width.{size}
use Rattle.dm_alu.proofs.Bits.{bit_le}
use Rattle.dm_alu.proofs.Rotations.{nine_below, seventeen_below}
use Rattle.dm_alu.specs.inner.Rotations.{bits_of, rotated, with_carry_above}

byte_back : (x k : ℕ) → x < 256 → k < 8 → x * 257 / 2 ^ k % 256 ≡ rotated 256 x (8 - k) % 256
byte_back x (suc (suc (suc (suc (suc (suc (suc zero))))))) h l = omega arith
byte_back x k h l = omega arith

nine_back : (x k : ℕ) → x < 512 → k < 9 → x * 513 / 2 ^ k % 512 ≡ rotated 512 x (9 - k) % 512
nine_back x (suc (suc (suc (suc (suc (suc (suc (suc zero)))))))) h l = omega arith
nine_back x k h l = omega arith

word_back : (x k : ℕ) → x < 65536 → k < 16 → x * 65537 / 2 ^ k % 65536 ≡ rotated 65536 x (16 - k) % 65536
word_back x (suc (suc (suc (suc (suc (suc (suc (suc (suc (suc (suc (suc (suc (suc (suc zero))))))))))))))) h l =
    omega arith
word_back x k h l = omega arith

seventeen_back : (x k : ℕ) → x < 131072 → k < 17 → x * 131073 / 2 ^ k % 131072 ≡ rotated 131072 x (17 - k) % 131072
seventeen_back x (suc (suc (suc (suc (suc (suc (suc (suc (suc (suc (suc (suc (suc (suc (suc (suc zero)))))))))))))))) h
    l = omega arith
seventeen_back x k h l = omega arith

pub turned_back : (w : Width) (x k : ℕ) → x < size w → k < bits_of w → x * (size w + 1) / 2 ^ k % size w
    ≡ rotated (size w) x (bits_of w - k) % size w
turned_back Byte x k h l = byte_back x k h l
turned_back Word x k h l = word_back x k h l

pub through_back : (w : Width) (x k : ℕ) → x < 2 * size w → k < bits_of w + 1 →
    x * (2 * size w + 1) / 2 ^ k % (2 * size w) ≡ rotated (2 * size w) x (bits_of w + 1 - k) % (2 * size w)
through_back Byte x k h l = nine_back x k h l
through_back Word x k h l = seventeen_back x k h l

-- the carry above a value, as a bit
byte_above : (y : ℕ) → nat_eq (y / 256 % 2) 1 ≡ nat_le 256 (y % 512)
byte_above y = grind (arith, nat_tests)

word_above : (y : ℕ) → nat_eq (y / 65536 % 2) 1 ≡ nat_le 65536 (y % 131072)
word_above y = grind (arith, nat_tests)

pub above : (w : Width) (y : ℕ) → nat_eq (y / size w % 2) 1 ≡ nat_le (size w) (y % (2 * size w))
above Byte y = byte_above y
above Word y = word_above y

pub within : (w : Width) (y : ℕ) → y % size w ≡ y % (2 * size w) % size w
within Byte y = omega arith
within Word y = omega arith

-- a value of 8 bits extended by its sign and moved
pub byte_sign : (t k : ℕ) → t < 256 → k ≤ 16 → (4294967295 - t) / 2 ^ k % 256 ≡ 255 - t / 2 ^ k
byte_sign t (suc (suc (suc (suc (suc (suc (suc (suc (suc (suc (suc (suc (suc (suc (suc (suc zero)))))))))))))))) h l =
    omega arith
byte_sign t k h l = omega arith

pub byte_last : (t k : ℕ) → t < 256 → k ≤ 16 → (4294967295 - t) / 2 ^ k % 2 ≡ 1 - t / 2 ^ k % 2
byte_last t (suc (suc (suc (suc (suc (suc (suc (suc (suc (suc (suc (suc (suc (suc (suc (suc zero)))))))))))))))) h l =
    omega arith
byte_last t k h l = omega arith

-- a value of 16 bits extended by its sign and moved
pub word_sign : (t k : ℕ) → t < 65536 → k ≤ 16 → (4294967295 - t) / 2 ^ k % 65536 ≡ 65535 - t / 2 ^ k
word_sign t (suc (suc (suc (suc (suc (suc (suc (suc (suc (suc (suc (suc (suc (suc (suc (suc zero)))))))))))))))) h l =
    omega arith
word_sign t k h l = omega arith

pub word_last : (t k : ℕ) → t < 65536 → k ≤ 16 → (4294967295 - t) / 2 ^ k % 2 ≡ 1 - t / 2 ^ k % 2
word_last t (suc (suc (suc (suc (suc (suc (suc (suc (suc (suc (suc (suc (suc (suc (suc (suc zero)))))))))))))))) h l =
    omega arith
word_last t k h l = omega arith

pub mod_bits : (w : Width) (k : ℕ) → k % bits_of w < bits_of w
mod_bits Byte k = omega arith
mod_bits Word k = omega arith

pub mod_turn : (w : Width) (k : ℕ) → k % (bits_of w + 1) < bits_of w + 1
mod_turn Byte k = omega arith
mod_turn Word k = omega arith

-- where fewer bits go round than there are, the number stays within its size
pub through_below : (w : Width) (x k : ℕ) → x < 2 * size w → k ≤ bits_of w + 1 → rotated (2 * size w) x k % (2 * size w)
    ≡ rotated (2 * size w) x k
through_below Byte x k h l = let b = nine_below x k h l in omega arith
through_below Word x k h l = let b = seventeen_below x k h l in omega arith

pub above_below : (w : Width) (m : Shifted) → m.value < size w → with_carry_above w m < 2 * size w
above_below Byte m h = let few = bit_le m.carry in omega arith
above_below Word m h = let few = bit_le m.carry in omega arith
