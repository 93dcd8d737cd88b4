-- Which instruction some written words are: an action of the instruction table.
-- Source: Intel 8086 Family User's Manual, section 2.7 (instructions and their operands) and section 2.8 (addressing
-- modes); where a word says the size of memory is this machine's own (docs/DECISIONS.md).
use Rattle.std.specs.Prelude.{◌≡◌, true, ◌⊎◌, IsSomeAnd, if◌then◌else◌}
use Rattle.dm_ins.specs.declared.operand.Width.{Width}
use Rattle.dm_ins.specs.declared.operand.Width.TheVariants as width
use Rattle.dm_ins.specs.declared.operand.Operand.{Operand}
use Rattle.dm_ins.specs.declared.operand.Operand.TheVariants as operand
use Rattle.dm_ins.specs.declared.action.Mnemonic.{Mnemonic}
use Rattle.dm_ins.specs.declared.action.Mnemonic.TheVariants as op
use Rattle.dm_ins.specs.declared.action.Action.{Action}
use Rattle.dm_decode.specs.Texts.{gives_size}
use Rattle.dm_decode.specs.declared.words.written.Size.{Size}
use Rattle.dm_decode.specs.declared.words.written.Size.TheVariants.{Absent, Byte, Word, Near}
use Rattle.dm_decode.specs.declared.words.written.Numeral.{Numeral}
use Rattle.dm_decode.specs.declared.words.written.Written.{Written}
use Rattle.dm_decode.specs.declared.words.written.Written.TheVariants as w
use Rattle.dm_decode.specs.declared.words.written.Words.{Words}

-- ---- operands

-- the written number can be the operand o: a byte or word value, the target that it leads to, or the count 1 of a
-- shift
abbrev pub IsNumber : Numeral → Operand → Type 0
IsNumber n o =
    IsSomeAnd n.byte (λ b. o ≡ operand.ByteValue b)
    ⊎ IsSomeAnd n.word (λ v. o ≡ operand.WordValue v)
    ⊎ (o ≡ operand.Target n.distance)
    ⊎ ((n.is_one ≡ true) × (o ≡ operand.One))

-- what is written can be the operand o; memory may be that of a byte or of a word
abbrev pub IsWritten : Written → Operand → Type 0
IsWritten w.Nothing o = o ≡ operand.Nothing
IsWritten (w.ByteRegister r) o = o ≡ operand.ByteRegister r
IsWritten (w.WordRegister r) o = o ≡ operand.WordRegister r
IsWritten (w.SegmentRegister r) o = o ≡ operand.SegmentRegister r
IsWritten (w.Memory s a) o = (o ≡ operand.Memory width.Byte a) ⊎ (o ≡ operand.Memory width.Word a)
IsWritten (w.Number n) o = IsNumber n o
IsWritten (w.Far s n) o = o ≡ operand.FarTarget n s

-- ---- the word before memory

-- the size word of memory of this width: BYTE or WORD
abbrev pub width_word : Width → Size
width_word width.Byte = Byte
width_word width.Word = Word

-- the size word before a memory operand: NEAR for a jump or call by memory, none for a far one, which has FAR in its
-- name; for any other mnemonic s
abbrev pub jump_word : Mnemonic → Size → Size
jump_word op.CallFar s = Absent
jump_word op.JmpFar s = Absent
jump_word op.Call s = Near
jump_word op.Jmp s = Near
jump_word m s = s

-- the size word that an action has before a memory operand of this width: BYTE or WORD where no general register
-- gives the size, NEAR for jumps and calls
abbrev pub size_word : Action → Width → Size
size_word a v = jump_word a.mnemonic (if gives_size a then Absent else width_word v)

-- the size word that an action has before an operand; only memory has one
abbrev pub word_before : Action → Operand → Size
word_before a (operand.Memory v m) = size_word a v
word_before a _ = Absent

-- the size word that is written before memory; other operands have none
abbrev pub word_written : Written → Size
word_written (w.Memory s m) = s
word_written _ = Absent

-- ---- instructions

-- the words are the action a: its mnemonic and its operands, each with the size word that the action asks for
pub record AreWords (words : Words) (a : Action) : Type 0 where
  pub mnemonic : a.mnemonic ≡ words.mnemonic
  pub first : IsWritten words.first a.first
  pub second : IsWritten words.second a.second
  pub first_word : word_written words.first ≡ word_before a a.first
  pub second_word : word_written words.second ≡ word_before a a.second
