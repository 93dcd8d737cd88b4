-- The bytes that a statement stands for, and how many they are before labels have values. The value of a label is its
-- place: the offset of its statement in the program's segment.
-- Source: Intel 8086 Family User's Manual, section 2.9 (ASM-86).
use Rattle.std.specs.Prelude.{◌≡◌, ℕ, ◌+◌, ◌*◌, ◌/◌, ◌%◌, List, [], ◌∷◌, length, map, flat_map, Option, Some, IsSome}
use Rattle.std.specs.List.{AllByRecursion}
use Rattle.dm_ins.specs.Preferred.{IsPreferred}
use Rattle.dm_ins.specs.Spelling.{word_bytes}
use Rattle.dm_ins.specs.Walks.{◌>>=◌}
use Rattle.dm_ins.specs.declared.ins.Ins.{Ins}
use Rattle.dm_ins.specs.declared.action.Mnemonic.{Mnemonic}
use Rattle.dm_decode.specs.declared.words.written.Written.{Written}
use Rattle.dm_decode.specs.declared.words.written.Words.{Words}
use Rattle.dm_decode.specs.words.Words.{AreWords}
use Rattle.dm_lines.specs.declared.term.Expression.{Expression}
use Rattle.dm_lines.specs.declared.term.Term.{Term}
use Rattle.dm_lines.specs.declared.statement.Instruction.{Instruction}
use Rattle.dm_lines.specs.Placing.{amount_byte, standing, written_of, outline_of}
use Rattle.dm_lines.specs.Statements.{Item, nothing, instruction, bytes, words}
use Rattle.dm_asm.specs.Labels.{Label, label_place, term_place}

-- ---- with the places of labels

-- what an operand of an instruction is written as, in the terms of `dm_decode::words`; `next` is the offset of the next
-- instruction. None if its label is unknown, or the label and what is added to it lie outside 0 to FFFFh
abbrev pub written_for : List Label → Mnemonic → ℕ → Term → Option Written
written_for labels m next term = do
  place ← term_place labels term
  written_of m term place next

-- what an instruction is written as, with the places of its labels; `next` is the offset of the next instruction. None
-- if a label is unknown, or a label and what is added to it lie outside 0 to FFFFh
abbrev pub placed_words : List Label → ℕ → Instruction → Option Words
placed_words labels next i = do
  first ← written_for labels i.mnemonic next i.first
  second ← written_for labels i.mnemonic next i.second
  Some (record { mnemonic = i.mnemonic; first = first; second = second })

-- the word of a value of a DW, with the place of its label; None if the label is unknown, or the label and what is
-- added to it lie outside 0 to FFFFh
abbrev pub value_word : List Label → Expression → Option ℕ
value_word labels v = do
  place ← label_place labels v
  standing v place

-- ---- before labels have places

-- what an instruction is written as before its labels have places
abbrev pub outlined : Instruction → Words
outlined i = record {
  mnemonic = i.mnemonic;
  first = outline_of i.mnemonic i.first;
  second = outline_of i.mnemonic i.second;
}

-- an instruction has n bytes, as it has wherever it and its labels stand: it is counted as if each label were 0 and
-- each target the next instruction (`outline_of`). If the table has no such instruction, it has no length, and the line
-- is wrong wherever its labels are
pub record HasShape (i : Instruction) (n : ℕ) : Type 0 where
  pub ins : Ins
  pub prefixes : ins.prefixes ≡ i.prefixes
  pub words : AreWords (outlined i) ins.action
  pub code : List ℕ
  pub preferred : IsPreferred ins code
  pub long : n ≡ length code

-- an item has n bytes: 0 for no item, those of an instruction, one for each number of a DB, two for each value of a DW
abbrev pub HasLength : Item → ℕ → Type 0
HasLength nothing n = n ≡ 0
HasLength (instruction i) n = HasShape i n
HasLength (bytes ns) n = n ≡ length ns
HasLength (words vs) n = n ≡ 2 * length vs

-- ---- bytes

-- the bytes of an instruction at an offset: those that are preferred for the instruction of the table with its
-- prefixes and operands. They are as many as were counted before labels had places (`HasShape`)
pub record IsCoded (labels : List Label) (at : ℕ) (i : Instruction) (code : List ℕ) : Type 0 where
  pub shape : HasShape i (length code)
  pub written : Words
  pub placed : placed_words labels (at + length code) i ≡ Some written
  pub ins : Ins
  pub prefixes : ins.prefixes ≡ i.prefixes
  pub words : AreWords written ins.action
  pub preferred : IsPreferred ins code

-- the bytes of a DW with these values, two for each
pub record AreWordsOf (labels : List Label) (vs : List Expression) (code : List ℕ) : Type 0 where
  pub values : List ℕ
  pub are : map (value_word labels) vs ≡ map Some values
  pub bytes : code ≡ flat_map word_bytes values

-- the bytes of an item at an offset; an item with an unknown label, or a number, label or target out of range, has none
abbrev pub Codes : List Label → ℕ → Item → List ℕ → Type 0
Codes labels at nothing code = code ≡ []
Codes labels at (instruction i) code = IsCoded labels at i code
Codes labels at (bytes ns) code = map amount_byte ns ≡ map Some code
Codes labels at (words vs) code = AreWordsOf labels vs code

-- ---- labels that are named

-- the operand names no label, or one of the labels in the list
abbrev pub KnowsTerm : List Label → Term → Type 0
KnowsTerm labels term = IsSome (term_place labels term)

-- each label that an item names is one of the labels in the list
abbrev pub Knows : List Label → Item → Type 0
Knows labels nothing = Unit {0}
Knows labels (instruction i) = KnowsTerm labels i.first × KnowsTerm labels i.second
Knows labels (bytes ns) = Unit {0}
Knows labels (words vs) = AllByRecursion (λ v. IsSome (label_place labels v)) vs
