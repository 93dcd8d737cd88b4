-- What the first pass of `assemble` keeps of the lines: the bytes of statements that have the same bytes wherever they
-- and labels stand, but nothing of a DW. For private contracts and proofs alone.
use Rattle.std.specs.Prelude.{◌≡◌, ℕ, ◌≤◌, Bool, true, false, List, [], ◌∷◌, ◌++◌, length, Option, Some, None, is_none}
use Rattle.dm_ins.specs.declared.operand.Operand.{Operand}
use Rattle.dm_ins.specs.declared.operand.Operand.TheVariants as operand
use Rattle.dm_decode.specs.declared.words.written.Words.{Words}
use Rattle.dm_lines.specs.declared.term.Term.{Term}
use Rattle.dm_lines.specs.declared.term.Term.TheVariants as term
use Rattle.dm_lines.specs.declared.statement.Instruction.{Instruction}
use Rattle.dm_lines.specs.Placing.{written_of}
use Rattle.dm_lines.specs.Statements.{Item}
use Rattle.dm_asm.specs.declared.known.Line.{Line}
use Rattle.dm_asm.specs.declared.known.Line.TheVariants as line
use Rattle.dm_asm.specs.declared.known.Known.{Known}
use Rattle.dm_asm.specs.Labels.{Label}
use Rattle.dm_asm.specs.Codes.{Codes, HasLength}
use Rattle.dm_asm.specs.Programs.{Sized}

-- the operand names no label
abbrev pub names_none : Term → Bool
names_none (term.Address s v) = is_none v.label
names_none (term.Number v) = is_none v.label
names_none _ = true

-- the operand is a target, which counts from the next instruction
abbrev pub targets : Operand → Bool
targets (operand.Target n) = true
targets _ = false

-- what an instruction that names no label is written as, with targets counted from 0
pub record AreFixed (i : Instruction) (words : Words) : Type 0 where
  pub mnemonic : words.mnemonic ≡ i.mnemonic
  pub first_free : names_none i.first ≡ true
  pub second_free : names_none i.second ≡ true
  pub first : written_of i.mnemonic i.first 0 0 ≡ Some words.first
  pub second : written_of i.mnemonic i.second 0 0 ≡ Some words.second

-- these are the bytes of the item, wherever it and labels stand
abbrev pub IsFixed : Item → List ℕ → Type 0
IsFixed item code = (labels : List Label) (at : ℕ) → Codes labels at item code

-- the first n of the kept `bytes` are those of the statement x, which are the same wherever it stands; `rest` are the
-- kept bytes after them
pub record IsKnown (x : Sized) (n : ℕ) (bytes rest : List ℕ) : Type 0 where
  pub code : List ℕ
  pub is : IsFixed x.statement.item code
  pub long : n ≡ length code
  pub parts : bytes ≡ code ++ rest

-- of each statement either its bytes are kept, in `bytes` one after the other, or nothing (`Open`)
abbrev pub AreKnown : List Sized → List Line → List ℕ → Type 0
AreKnown [] [] bytes = bytes ≡ []
AreKnown [] (l ∷ ls) bytes = ⊥
AreKnown (x ∷ xs) [] bytes = ⊥
AreKnown (x ∷ xs) (line.Open ∷ ls) bytes = AreKnown xs ls bytes
AreKnown (x ∷ xs) (line.Known n ∷ ls) bytes = (rest : List ℕ) × IsKnown x n bytes rest × AreKnown xs ls rest

-- from old to new, a statement with this item is added at the end of what is kept, with its bytes or as `Open`
abbrev pub Keeps : Known → Known → Item → Type 0
Keeps old new item = (xs : List Sized) (x : Sized) → x.statement.item ≡ item →
    AreKnown xs old.lines.items old.bytes.items → AreKnown (xs ++ x ∷ []) new.lines.items new.bytes.items

-- the result of adding an item: its length, after it is added; None if it has none, as the table has no such
-- instruction
abbrev pub KeepsOf : Known → Known → Item → Option ℕ → Type 0
KeepsOf old new item None = (n : ℕ) → HasLength item n → ⊥
KeepsOf old new item (Some n) = HasLength item n × (n ≤ 256) × Keeps old new item
