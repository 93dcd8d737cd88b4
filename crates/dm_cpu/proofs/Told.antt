-- The word that PUSHF stores, by the numbers that stand for the flags
use Rattle.std.proofs.Common.{◌≡◌, ℕ, ◌+◌, ◌-◌, ◌*◌, ◌/◌, ◌%◌, ◌<◌, ◌==◌, Bool, true, false, nat_le, refl, arith, bit_xor}
use Rattle.std.specs.Int.{from_bool}
use Rattle.std.proofs.lemmas.Nat.{xor_lt}
use Rattle.std.proofs.lemmas.Bool.Decides.{nat_tests}
use Rattle.dm_alu.specs.Flags.{bit_is_one, even_parity, flags_word}
use Rattle.dm_cpu.specs.inner.ResultFlags.{flags_by}
use Rattle.dm_cpu.proofs.Results.{overflow_read}

-- a top bit as a number
top_told : (x : ℕ) (b : Bool) → x < 4294967296 → nat_le 2147483648 x ≡ b → x / 2147483648 ≡ from_bool b
top_told x true h e = grind (arith, nat_tests)
top_told x false h e = grind (arith, nat_tests)

-- a bit as a number
bit_told : (n : ℕ) (b : Bool) → (n % 2 == 1) ≡ b → n % 2 ≡ from_bool b
bit_told n true e = grind (arith, nat_tests)
bit_told n false e = grind (arith, nat_tests)

-- the sum of the flags' bits
sum_told : (c p a z s t i d o odd some : ℕ) → odd + p ≡ 1 → some + z ≡ 1 →
    128 * (2 * (8 * o + (t + 2 * i + 4 * d)) + s) + (16 * a + c) + 61510 - 4 * (odd + 16 * some)
    ≡ c + 2 + 4 * p + 16 * a + 64 * z + 128 * s + 256 * t + 512 * i + 1024 * d + 2048 * o + 0xF000
sum_told c p a z s t i d o odd some e f = omega arith

pub word_told : (r w y a c odd some : ℕ) → r < 4294967296 → w < 4294967296 → y < 4294967296 →
    odd + from_bool (even_parity (bit_xor (r % 256) (r / 65536 % 256))) ≡ 1 → some + from_bool (r % 65536 == 0) ≡ 1 →
    128 * (2 * (8 * (bit_xor r w / 2147483648) + c / 256 % 8) + r / 2147483648) + (16 * (a / 16 % 2) + y / 2147483648)
    + 61510 - 4 * (odd + 16 * some)
    ≡ flags_word (flags_by r w y a (bit_is_one c 256) (bit_is_one c 512) (bit_is_one c 1024))
unfolding flags_word
word_told r w y a c odd some h k l e f =
    let flags = flags_by r w y a (bit_is_one c 256) (bit_is_one c 512) (bit_is_one c 1024) in
    let overflow : bit_xor r w / 2147483648 ≡ from_bool flags.overflow =
    top_told _ _ (xor_lt 32 r w h k) (overflow_read r w h k) in
    let sign : r / 2147483648 ≡ from_bool flags.sign = top_told r _ h refl in
    let carry : y / 2147483648 ≡ from_bool flags.carry = top_told y _ l refl in
    let adjust : a / 16 % 2 ≡ from_bool flags.adjust = bit_told (a / 16) _ refl in
    let trap : c / 256 % 2 ≡ from_bool flags.trap = bit_told (c / 256) _ refl in
    let interrupt : c / 512 % 2 ≡ from_bool flags.interrupt = bit_told (c / 512) _ refl in
    let direction : c / 1024 % 2 ≡ from_bool flags.direction = bit_told (c / 1024) _ refl in
    let control : c / 256 % 8 ≡ c / 256 % 2 + 2 * (c / 512 % 2) + 4 * (c / 1024 % 2) = omega arith in
    omega arith
