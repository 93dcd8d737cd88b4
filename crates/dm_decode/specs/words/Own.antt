-- The words that the text of an instruction shows. `next` is the offset of the next instruction.
-- Source: Intel 8086 Family User's Manual, section 2.7 (instructions and their operands); how sizes, numbers and
-- targets are written is this machine's own (docs/DECISIONS.md).
use Rattle.std.specs.Prelude.{ℕ, ◌+◌, ◌-◌, ◌%◌, ◌==◌, nat_lt, if◌then◌else◌, Some, None}
use Rattle.dm_ins.specs.declared.operand.Operand.{Operand}
use Rattle.dm_ins.specs.declared.operand.Operand.TheVariants as operand
use Rattle.dm_ins.specs.declared.action.Action.{Action}
use Rattle.dm_decode.specs.declared.words.written.Numeral.{Numeral}
use Rattle.dm_decode.specs.declared.words.written.Written.{Written}
use Rattle.dm_decode.specs.declared.words.written.Written.TheVariants as w
use Rattle.dm_decode.specs.declared.words.written.Words.{Words}
use Rattle.dm_decode.specs.words.Words.{size_word}

-- a number from 0 to FFFFh as a byte, if it is below 100h, as a word, a target and a shift count
abbrev pub numeral_of : ℕ → ℕ → Numeral
numeral_of next n = record {
  byte = if nat_lt n 0x100 then Some n else None;
  word = Some n;
  distance = (n + 65536 - next) % 65536;
  is_one = n == 1;
}

-- an operand of an action as its text shows it; a target is written as the offset that it leads to
abbrev pub shown_operand : Action → ℕ → Operand → Written
shown_operand a next operand.Nothing = w.Nothing
shown_operand a next (operand.ByteRegister r) = w.ByteRegister r
shown_operand a next (operand.WordRegister r) = w.WordRegister r
shown_operand a next (operand.SegmentRegister r) = w.SegmentRegister r
shown_operand a next (operand.Memory v m) = w.Memory (size_word a v) m
shown_operand a next (operand.ByteValue n) = w.Number (numeral_of next n)
shown_operand a next (operand.WordValue n) = w.Number (numeral_of next n)
shown_operand a next (operand.Target d) = w.Number (numeral_of next ((next + d) % 65536))
shown_operand a next operand.One = w.Number (numeral_of next 1)
shown_operand a next (operand.FarTarget n s) = w.Far s n

-- the mnemonic and the operands that the text of an action shows
unfoldable pub words_of_action : Action → ℕ → Words
words_of_action a next = record {
  mnemonic = a.mnemonic;
  first = shown_operand a next a.first;
  second = shown_operand a next a.second;
}
