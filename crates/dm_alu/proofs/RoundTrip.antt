-- The flags that are loaded from a stored word are those that were stored.
use Rattle.std.proofs.Common.{◌≡◌, ℕ, ◌/◌, ◌%◌, Bool, true, false, arith, nat_eq, ap, ◌∙◌}
use Rattle.std.specs.Int.{from_bool}
use Rattle.dm_alu.specs.declared.flags.Flags.{Flags}
use Rattle.dm_alu.specs.Flags.{flags_word, flags_of}
use Rattle.dm_alu.proofs.Bits.{bit_le}

read_back : (b : Bool) (n : ℕ) → n ≡ from_bool b → nat_eq n 1 ≡ b
read_back false n e = rw e
read_back true n e = rw e

flags_of-flags_word : (f : Flags) → flags_of (flags_word f) ≡ f
unfolding flags_of flags_word
flags_of-flags_word f = λ i. record {
  carry = read_back f.carry (flags_word f / 1 % 2) (omega (arith, bit_le)) i;
  parity = read_back f.parity (flags_word f / 4 % 2) (omega (arith, bit_le)) i;
  adjust = read_back f.adjust (flags_word f / 16 % 2) (omega (arith, bit_le)) i;
  zero = read_back f.zero (flags_word f / 64 % 2) (omega (arith, bit_le)) i;
  sign = read_back f.sign (flags_word f / 128 % 2) (omega (arith, bit_le)) i;
  trap = read_back f.trap (flags_word f / 256 % 2) (omega (arith, bit_le)) i;
  interrupt = read_back f.interrupt (flags_word f / 512 % 2) (omega (arith, bit_le)) i;
  direction = read_back f.direction (flags_word f / 1024 % 2) (omega (arith, bit_le)) i;
  overflow = read_back f.overflow (flags_word f / 2048 % 2) (omega (arith, bit_le)) i;
}

-- the same for a number that is known to be the stored word
pub loaded : (n : ℕ) (f : Flags) → n ≡ flags_word f → flags_of n ≡ f
loaded n f e = ap flags_of e ∙ flags_of-flags_word f
