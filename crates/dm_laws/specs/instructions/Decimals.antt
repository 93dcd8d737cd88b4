-- The laws of decimal digits over instructions: ADD or ADC and DAA, SUB or SBB and DAS, ADD or ADC and AAA, SUB or SBB
-- and AAS, MUL and AAM, AAD and DIV, one after the other.
-- Source: Intel 8086 Family User's Manual, section 2.7, Arithmetic Instructions: packed and unpacked decimal numbers.
use Rattle.std.specs.Prelude.{Bool, false, true, ℕ, ◌*◌, ◌+◌, ◌<◌, ◌≡◌}
use Rattle.std.specs.Int.{from_bool}
use Rattle.dm_alu.specs.declared.width.Width.TheVariants.{Byte}
use Rattle.dm_alu.specs.Adjustments.{ah_of, al_of}
use Rattle.dm_laws.specs.arithmetic.Decimal.{Accumulator, HasDigits, HasPackedDifference, HasPackedSum, HasUnpackedDifference, HasUnpackedSum, IsPacked, IsUnpacked, packed, unpacked}
use Rattle.dm_ins.specs.declared.action.Mnemonic.{Mnemonic}
use Rattle.dm_ins.specs.declared.action.Mnemonic.TheVariants as op
use Rattle.dm_ins.specs.declared.ins.Ins.{Ins}
use Rattle.dm_ins.specs.declared.operand.ByteRegister.TheVariants.{Al}
use Rattle.dm_ins.specs.declared.operand.Operand.TheVariants.{ByteRegister}
use Rattle.dm_cpu.specs.Guest.{Guest}
use Rattle.dm_cpu.specs.Values.{value_in, width_of}
use Rattle.dm_exec.specs.Effect.{effect}

-- AX and the flags
abbrev pub accumulator_of : Guest → Accumulator
accumulator_of g = record { ax = g.cpu.ax; flags = g.cpu.flags }

-- ADC for true, ADD for false
abbrev pub sum_mnemonic : Bool → Mnemonic
sum_mnemonic true = op.Adc
sum_mnemonic false = op.Add

-- SBB for true, SUB for false
abbrev pub difference_mnemonic : Bool → Mnemonic
difference_mnemonic true = op.Sbb
difference_mnemonic false = op.Sub

-- the carry that such an instruction takes: CF, or none
abbrev pub carry_in : Bool → Guest → Bool
carry_in true g = g.cpu.flags.carry
carry_in false g = false

-- an instruction of this mnemonic whose first operand is AL
pub record IsOnAl (i : Ins) (mnemonic : Mnemonic) : Type 0 where
  pub mnemonic_is : i.action.mnemonic ≡ mnemonic
  pub first_is : i.action.first ≡ ByteRegister Al

-- the byte of an instruction's second operand, and of its first (MUL, DIV)
abbrev pub second_byte : Guest → Ins → ℕ
second_byte g i = value_in Byte g i.prefixes.segment i.action.second

abbrev pub first_byte : Guest → Ins → ℕ
first_byte g i = value_in Byte g i.prefixes.segment i.action.first

-- a MUL or DIV of a byte
pub record IsOfByte (i : Ins) (mnemonic : Mnemonic) : Type 0 where
  pub mnemonic_is : i.action.mnemonic ≡ mnemonic
  pub width_is : width_of i.action.first ≡ Byte

-- AX and the flags after the instruction i, of k bytes, and then j, of n bytes
abbrev pub after_both : Guest → Ins → ℕ → Ins → ℕ → Accumulator
after_both g i k j n = accumulator_of (effect (effect g i k) j n)

-- what the pairs of instructions make of AL and the operand
pub record ComputesInDecimal (g : Guest) (i j : Ins) (k n : ℕ) : Type 0 where
  pub daa :
      (c : Bool) → IsOnAl i (sum_mnemonic c) → j.action.mnemonic ≡ op.Daa → IsPacked (al_of g.cpu.ax) →
      IsPacked (second_byte g i)
      → HasPackedSum (after_both g i k j n) (packed (al_of g.cpu.ax) + packed (second_byte g i)
      + from_bool (carry_in c g)) (ah_of g.cpu.ax)
  pub das :
      (c : Bool) → IsOnAl i (difference_mnemonic c) → j.action.mnemonic ≡ op.Das → IsPacked (al_of g.cpu.ax) →
      IsPacked (second_byte g i)
      → HasPackedDifference (after_both g i k j n) (packed (second_byte g i) + from_bool (carry_in c g))
      (packed (al_of g.cpu.ax)) (ah_of g.cpu.ax)
  pub aaa :
      (c : Bool) → IsOnAl i (sum_mnemonic c) → j.action.mnemonic ≡ op.Aaa → IsUnpacked (al_of g.cpu.ax) →
      IsUnpacked (second_byte g i)
      → HasUnpackedSum (after_both g i k j n) (unpacked (al_of g.cpu.ax) + unpacked (second_byte g i)
      + from_bool (carry_in c g)) (ah_of g.cpu.ax)
  pub aas :
      (c : Bool) → IsOnAl i (difference_mnemonic c) → j.action.mnemonic ≡ op.Aas → IsUnpacked (al_of g.cpu.ax) →
      IsUnpacked (second_byte g i)
      → HasUnpackedDifference (after_both g i k j n) (unpacked (second_byte g i) + from_bool (carry_in c g))
      (unpacked (al_of g.cpu.ax)) (ah_of g.cpu.ax)
  pub aam :
      IsOfByte i op.Mul → j.action.mnemonic ≡ op.Aam → al_of g.cpu.ax < 10 → first_byte g i < 10
      → HasDigits (after_both g i k j n) (al_of g.cpu.ax * first_byte g i)

-- they compute in decimal digits
abbrev pub InstructionsComputeInDecimal : Type 0
InstructionsComputeInDecimal = (g : Guest) (i j : Ins) (k n : ℕ) → g.cpu.ax < 65536 → ComputesInDecimal g i j k n
