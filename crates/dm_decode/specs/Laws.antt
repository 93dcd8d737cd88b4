-- Laws of the names of mnemonics and registers, and of the texts of instructions.
use Rattle.std.specs.Prelude.{◌≡◌, ℕ, true, false, Some}
use Rattle.dm_ins.specs.declared.action.Mnemonic.{Mnemonic}
use Rattle.dm_ins.specs.declared.operand.WordRegister.{WordRegister}
use Rattle.dm_ins.specs.declared.operand.ByteRegister.{ByteRegister}
use Rattle.dm_ins.specs.declared.operand.SegmentRegister.{SegmentRegister}
use Rattle.dm_ins.specs.Registers.{word_registers, byte_registers}
use Rattle.dm_ins.specs.declared.ins.Ins.{Ins}
use Rattle.dm_decode.specs.Pieces.{text_bytes, parted}
use Rattle.dm_decode.specs.Texts.{mnemonic_pieces, pieces}
use Rattle.dm_decode.specs.Names.{name_of, byte_name, word_name, segment_name, mnemonics, segment_registers, named}

-- looking up the name of a mnemonic or of a register finds that mnemonic or register; and the pieces of a mnemonic's
-- text, one or two words, spell its name
pub record NamesAreRead : Type 0 where
  pub words : (m : Mnemonic) → text_bytes (mnemonic_pieces m) ≡ name_of m
  pub mnemonic : (m : Mnemonic) → named name_of mnemonics (name_of m) ≡ Some m
  pub word_register : (r : WordRegister) → named word_name word_registers (word_name r) ≡ Some r
  pub byte_register : (r : ByteRegister) → named byte_name byte_registers (byte_name r) ≡ Some r
  pub segment_register : (r : SegmentRegister) → named segment_name segment_registers (segment_name r) ≡ Some r

-- in the text of an instruction a sign or a space stands between any two names and numbers
abbrev pub TextsAreParted : Type 0
TextsAreParted = (i : Ins) (next : ℕ) → parted false (pieces i next) ≡ true
