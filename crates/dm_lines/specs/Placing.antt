-- What an operand is written as in the terms of `dm_decode::words`: with the value of its label, `place`, and, as an
-- outline, before labels have values. `next` is the offset of the next instruction. None says that a label and what is
-- added to it lie outside 0 to FFFFh.
-- Source: Intel 8086 Family User's Manual, section 2.9 (labels and numbers of ASM-86); which operands a label may be
-- is this machine's own (docs/DECISIONS.md).
use Rattle.std.specs.Prelude.{ℕ, ◌+◌, ◌-◌, ◌%◌, Bool, true, false, ◌==◌, Option, Some, None, nat_lt, nat_le, if◌then◌else◌}
use Rattle.dm_ins.specs.declared.action.Mnemonic.{Mnemonic}
use Rattle.dm_ins.specs.declared.operand.Base.TheVariants.{Direct}
use Rattle.dm_ins.specs.Walks.{◌>>=◌}
use Rattle.dm_decode.specs.declared.words.written.Numeral.{Numeral}
use Rattle.dm_decode.specs.declared.words.written.Written.{Written}
use Rattle.dm_decode.specs.declared.words.written.Written.TheVariants as w
use Rattle.dm_decode.specs.words.StandIns.{is_move}
use Rattle.dm_lines.specs.declared.token.Name as Name'
use Rattle.dm_lines.specs.declared.term.Amount.{Amount}
use Rattle.dm_lines.specs.declared.term.Amount.TheVariants.{Plus, Minus}
use Rattle.dm_lines.specs.declared.term.Expression.{Expression}
use Rattle.dm_lines.specs.declared.term.Term.{Term}
use Rattle.dm_lines.specs.declared.term.Term.TheVariants as term
use Rattle.dm_lines.specs.Operands.{amount_word}

-- ---- values

-- the value of a label with a number added to it; None outside 0 to FFFFh
abbrev pub displaced : Amount → ℕ → Option ℕ
displaced (Plus n) place = if nat_lt (place + n) 65536 then Some (place + n) else None
displaced (Minus n) place = if nat_le n place then Some (place - n) else None

-- the word of a number, modulo 10000h, or of a label's value with a number added to it
abbrev pub word_from : Option Name'.Name → Amount → ℕ → Option ℕ
word_from None n place = Some (amount_word n)
word_from (Some l) n place = displaced n place

-- the word of a value whose label, if it has one, has the value `place`
abbrev pub standing : Expression → ℕ → Option ℕ
standing v place = word_from v.label v.amount place

-- the number as a byte; None if it is over 255
abbrev pub low_byte_of : ℕ → Option ℕ
low_byte_of n = if nat_lt n 256 then Some n else None

-- the byte of a number from -80h to FFh; None for another
abbrev pub amount_byte : Amount → Option ℕ
amount_byte (Plus n) = low_byte_of n
amount_byte (Minus n) = if nat_le n 128 then Some ((256 - n) % 256) else None

-- the displacement from the next instruction to a target, modulo 10000h
abbrev pub distance_of : ℕ → ℕ → ℕ
distance_of target next = (target + 65536 - next) % 65536

-- the number is 1, so that it can be the count of a shift
abbrev pub is_count_of_one : Amount → Bool
is_count_of_one (Plus n) = n == 1
is_count_of_one (Minus n) = false

-- ---- as each kind of operand

-- a number as a byte, if it is from -80h to FFh, as a word, a target and a shift count
abbrev pub number_at : Amount → ℕ → Numeral
number_at n next = record {
  byte = amount_byte n;
  word = Some (amount_word n);
  distance = distance_of (amount_word n) next;
  is_one = is_count_of_one n;
}

-- the value of a label as a target; under MOV also as a word, and as a byte if it is below 100h
abbrev pub label_at : Mnemonic → ℕ → ℕ → Numeral
label_at m target next =
    if is_move m
    then record { byte = low_byte_of target; word = Some target; distance = distance_of target next; is_one = false }
    else record { byte = None; word = None; distance = distance_of target next; is_one = false }

-- a number, or a label and a number that is added to it, as a byte, a word, a target and a shift count
abbrev pub numeral_from : Mnemonic → Option Name'.Name → Amount → ℕ → ℕ → Option Numeral
numeral_from m None n place next = Some (number_at n next)
numeral_from m (Some l) n place next = do
  target ← displaced n place
  Some (label_at m target next)

-- a value as a byte, a word, a target and a shift count
abbrev pub numeral_at : Mnemonic → Expression → ℕ → ℕ → Option Numeral
numeral_at m v place next = numeral_from m v.label v.amount place next

-- what an operand is written as in an instruction of the mnemonic m; None where a label and what is added to it lie
-- outside 0 to FFFFh
abbrev pub written_of : Mnemonic → Term → ℕ → ℕ → Option Written
written_of m term.Nothing place next = Some w.Nothing
written_of m (term.ByteRegister r) place next = Some (w.ByteRegister r)
written_of m (term.WordRegister r) place next = Some (w.WordRegister r)
written_of m (term.SegmentRegister r) place next = Some (w.SegmentRegister r)
written_of m (term.Memory s b n) place next = Some (w.Memory s (record { base = b; displacement = amount_word n }))
written_of m (term.Address s v) place next = do
  d ← standing v place
  Some (w.Memory s (record { base = Direct; displacement = d }))
written_of m (term.Number v) place next = do
  n ← numeral_at m v place next
  Some (w.Number n)
written_of m (term.Far s o) place next = Some (w.Far s o)

-- ---- before any label has a place: each byte is in range, each target is near

-- a number as a byte, a word, a target and a shift count in an outline. As a byte it counts modulo 64: so it is in
-- range, and the number of ESC, below 64, which decides the first byte, is right. As a target it is the next
-- instruction
abbrev pub number_outline : Amount → Numeral
number_outline n = record {
  byte = Some (amount_word n % 64);
  word = Some (amount_word n);
  distance = 0;
  is_one = is_count_of_one n;
}

-- a label in an outline: as a target it is the next instruction; under MOV it is 0 as a byte and a word, else neither
abbrev pub label_outline : Mnemonic → Numeral
label_outline m =
    if is_move m
    then record { byte = Some 0; word = Some 0; distance = 0; is_one = false }
    else record { byte = None; word = None; distance = 0; is_one = false }

-- a number or a label as a byte, a word, a target and a shift count in an outline
abbrev pub numeral_without : Mnemonic → Option Name'.Name → Amount → Numeral
numeral_without m None n = number_outline n
numeral_without m (Some l) n = label_outline m

-- a value as a byte, a word, a target and a shift count in an outline
abbrev pub numeral_outline : Mnemonic → Expression → Numeral
numeral_outline m v = numeral_without m v.label v.amount

-- the word of a number in an outline, modulo 10000h; 0 for a label
abbrev pub word_without : Option Name'.Name → Amount → ℕ
word_without None n = amount_word n
word_without (Some l) n = 0

-- the word of a value in an outline; 0 if it has a label
abbrev pub word_outline : Expression → ℕ
word_outline v = word_without v.label v.amount

-- what an operand is written as before labels have values, in an instruction of the mnemonic m. The instruction has
-- as many bytes as with any values of the labels
abbrev pub outline_of : Mnemonic → Term → Written
outline_of m term.Nothing = w.Nothing
outline_of m (term.ByteRegister r) = w.ByteRegister r
outline_of m (term.WordRegister r) = w.WordRegister r
outline_of m (term.SegmentRegister r) = w.SegmentRegister r
outline_of m (term.Memory s b n) = w.Memory s (record { base = b; displacement = amount_word n })
outline_of m (term.Address s v) = w.Memory s (record { base = Direct; displacement = word_outline v })
outline_of m (term.Number v) = w.Number (numeral_outline m v)
outline_of m (term.Far s o) = w.Far s o
