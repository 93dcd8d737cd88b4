-- What shifts and rotates mean: a shift by a + b bits is one by a bits and then one by b; to the left they double, to
-- the right they halve; a rotate undoes the one in the other direction, and a whole turn changes nothing.
-- Source: Intel 8086 Family User's Manual, section 2.7, Bit Manipulation Instructions, Shifts and Rotates.
use Rattle.std.specs.Prelude.{pos, false, ℕ, ◌%◌, ◌*ℤ◌, ◌*◌, ◌+ℤ◌, ◌+◌, ◌/◌, ◌<◌, ◌^◌, ◌≡◌}
use Rattle.dm_alu.specs.declared.flags.Flags.{Flags}
use Rattle.dm_alu.specs.declared.shifts.ShiftOperation.{ShiftOperation}
use Rattle.dm_alu.specs.declared.shifts.ShiftOperation.TheVariants.{ArithmeticRight, Left, LogicalRight, RotateLeft, RotateRight, RotateThroughCarryLeft, RotateThroughCarryRight}
use Rattle.dm_alu.specs.declared.width.Width.{Width}
use Rattle.dm_alu.specs.declared.width.Width.TheVariants.{Byte, Word}
use Rattle.dm_alu.specs.Shifts.{flags_after_shift, shift_value}
use Rattle.dm_alu.specs.Width.{signed, size}

-- a value and the flags
pub record Shiftable : Type 0 where
  pub value : ℕ
  pub flags : Flags

-- a shift or rotate by `count` bits
abbrev pub turned : ShiftOperation → Width → ℕ → Shiftable → Shiftable
turned op w count x = record {
  value = shift_value op w x.value count x.flags;
  flags = flags_after_shift op w x.value count x.flags;
}

-- the operand with the overflow flag cleared: shifts by one bit alone define that flag
abbrev pub without_overflow : Shiftable → Shiftable
without_overflow x = record x { flags = record x.flags { overflow = false } }

-- a shift or rotate by a + b bits does what one by a bits and then one by b bits do, so that one by n bits is n by one
-- bit; the overflow flag apart
abbrev pub ShiftsAddUp : Type 0
ShiftsAddUp =
    (op : ShiftOperation) (w : Width) (a b : ℕ) (x : Shiftable) → without_overflow (turned op w (a + b) x)
    ≡ without_overflow (turned op w b (turned op w a x))

-- SHL multiplies by a power of 2, modulo the width; SHR divides by one, cut towards zero; SAR divides the signed number
-- by one, cut towards minus infinity, so that the remainder is never negative
pub record ShiftsByPower (w : Width) (count : ℕ) (x : Shiftable) : Type 0 where
  pub left : (turned Left w count x).value ≡ x.value * 2 ^ count % size w
  pub right : (turned LogicalRight w count x).value ≡ x.value / 2 ^ count
  pub remainder : ℕ
  pub less : remainder < 2 ^ count
  pub signed_right : signed w (turned ArithmeticRight w count x).value *ℤ pos (2 ^ count) +ℤ pos remainder
      ≡ signed w x.value

-- shifts double and halve the values of a width
abbrev pub ShiftingDoublesOrHalves : Type 0
ShiftingDoublesOrHalves = (w : Width) (count : ℕ) (x : Shiftable) → x.value < size w → ShiftsByPower w count x

-- ROL and ROR by as many bits undo each other's value, as RCL and RCR do with the carry flag
pub record RotatesBack (w : Width) (count : ℕ) (x : Shiftable) : Type 0 where
  pub left_right : (turned RotateRight w count (turned RotateLeft w count x)).value ≡ x.value
  pub right_left : (turned RotateLeft w count (turned RotateRight w count x)).value ≡ x.value
  pub through_left_right : (turned RotateThroughCarryRight w count (turned RotateThroughCarryLeft w count x)).value
      ≡ x.value
  pub carry_left_right : (turned RotateThroughCarryRight w count (turned RotateThroughCarryLeft w count x)).flags.carry
      ≡ x.flags.carry
  pub through_right_left : (turned RotateThroughCarryLeft w count (turned RotateThroughCarryRight w count x)).value
      ≡ x.value
  pub carry_right_left : (turned RotateThroughCarryLeft w count (turned RotateThroughCarryRight w count x)).flags.carry
      ≡ x.flags.carry

-- the bits of a value of the width
abbrev pub bits : Width → ℕ
bits Byte = 8
bits Word = 16

-- rotating by the bits of the width changes no value; through the carry flag, by one bit more, neither value nor carry
pub record TurnsWholly (w : Width) (x : Shiftable) : Type 0 where
  pub left : (turned RotateLeft w (bits w) x).value ≡ x.value
  pub right : (turned RotateRight w (bits w) x).value ≡ x.value
  pub through_left : (turned RotateThroughCarryLeft w (bits w + 1) x).value ≡ x.value
  pub through_left_carry : (turned RotateThroughCarryLeft w (bits w + 1) x).flags.carry ≡ x.flags.carry
  pub through_right : (turned RotateThroughCarryRight w (bits w + 1) x).value ≡ x.value
  pub through_right_carry : (turned RotateThroughCarryRight w (bits w + 1) x).flags.carry ≡ x.flags.carry

-- rotates of the values of a width go back, and round
abbrev pub RotatingComesBack : Type 0
RotatingComesBack = (w : Width) (count : ℕ) (x : Shiftable) → x.value < size w → RotatesBack w count x × TurnsWholly w x
