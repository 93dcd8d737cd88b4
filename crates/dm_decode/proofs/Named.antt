-- Each name names what it is the name of.
use Rattle.std.specs.Prelude.{◌≡◌, Some}
use Rattle.std.proofs.Common.{refl}
use Rattle.dm_ins.specs.declared.operand.WordRegister.{WordRegister}
use Rattle.dm_ins.specs.declared.operand.WordRegister.TheVariants.{Ax}
use Rattle.dm_ins.specs.declared.operand.ByteRegister.{ByteRegister}
use Rattle.dm_ins.specs.declared.operand.ByteRegister.TheVariants.{Al}
use Rattle.dm_ins.specs.declared.operand.SegmentRegister.{SegmentRegister}
use Rattle.dm_ins.specs.declared.operand.SegmentRegister.TheVariants.{Es}
use Rattle.dm_ins.specs.declared.action.Mnemonic.{Mnemonic}
use Rattle.dm_ins.specs.declared.action.Mnemonic.TheVariants.{Add}
use Rattle.dm_ins.specs.Registers.{word_registers, byte_registers}
use Rattle.dm_decode.specs.Names.{name_of, byte_name, word_name, segment_name, mnemonics, segment_registers, named}
use Rattle.dm_decode.specs.Laws.{NamesAreRead}
use Rattle.dm_decode.proofs.Pieces.{mnemonic_bytes}

words_again : (r : WordRegister) → named word_name word_registers (word_name r) ≡ Some r
words_again Ax = refl
words_again _ = refl

bytes_again : (r : ByteRegister) → named byte_name byte_registers (byte_name r) ≡ Some r
bytes_again Al = refl
bytes_again _ = refl

segments_again : (r : SegmentRegister) → named segment_name segment_registers (segment_name r) ≡ Some r
segments_again Es = refl
segments_again _ = refl

mnemonics_again : (m : Mnemonic) → named name_of mnemonics (name_of m) ≡ Some m
unfolding name_of
mnemonics_again Add = refl
mnemonics_again _ = refl

pub names_are_read : NamesAreRead
names_are_read = record {
  words = mnemonic_bytes;
  mnemonic = mnemonics_again;
  word_register = words_again;
  byte_register = bytes_again;
  segment_register = segments_again;
}
