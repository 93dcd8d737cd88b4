-- The program that a text assembles to: each line is a statement, each label is at the offset of its statement, and
-- the bytes of each statement follow those of the ones before it, from offset 0100h on. And the error of a text that
-- assembles to none. Nothing here goes over a text in passes.
-- Source: Intel 8086 Family User's Manual, section 2.9 (ASM-86); the order of refusals is this machine's own
-- (docs/DECISIONS.md).
use Rattle.std.specs.Prelude.{◌≡◌, ℕ, ◌+◌, ◌<◌, ◌≤◌, List, [], ◌∷◌, ◌++◌, length, Option, Some, None, Result, Ok, Err}
use Rattle.dm_lines.specs.declared.token.Name as Name'
use Rattle.dm_lines.specs.Statements.{Statement, line_statement}
use Rattle.dm_asm.specs.declared.refusal.AssemblyRefusal.{AssemblyRefusal}
use Rattle.dm_asm.specs.declared.refusal.AssemblyRefusal.TheVariants as refusal
use Rattle.dm_asm.specs.Lines.{lines_of}
use Rattle.dm_asm.specs.Labels.{Label, IsFree, place_of_label}
use Rattle.dm_asm.specs.Codes.{Codes, HasLength, Knows}

-- ---- statements and labels

-- a statement, and the number of its bytes
pub record Sized : Type 0 where
  pub statement : Statement
  pub long : ℕ

-- the line stands for the statement of x, whose item has the length of x
pub record Reads (line : List ℕ) (x : Sized) : Type 0 where
  pub is : line_statement line ≡ Some x.statement
  pub long : HasLength x.statement.item x.long

-- the lines are the statements xs, one each
abbrev pub AreRead : List (List ℕ) → List Sized → Type 0
AreRead [] [] = Unit {0}
AreRead [] (x ∷ xs) = ⊥
AreRead (line ∷ lines) [] = ⊥
AreRead (line ∷ lines) (x ∷ xs) = Reads line x × AreRead lines xs

-- the number of bytes of all the statements
abbrev pub total : List Sized → ℕ
total [] = 0
total (x ∷ xs) = x.long + total xs

-- the label of a statement at this offset as a list, empty if it has none
abbrev pub own_label : Option Name'.Name → ℕ → List Label
own_label None at = []
own_label (Some name) at = record { name = name; place = at } ∷ []

-- the labels of statements from an offset on: each has the offset of its statement as its place
abbrev pub labels_from : ℕ → List Sized → List Label
labels_from at [] = []
labels_from at (x ∷ xs) = own_label x.statement.label at ++ labels_from (at + x.long) xs

-- the labels of a program's statements, which begin at offset 0100h
abbrev pub labels_of : List Sized → List Label
labels_of xs = labels_from 0x100 xs

-- no two labels have the same name
abbrev pub AreOnce : List Label → Type 0
AreOnce [] = Unit {0}
AreOnce (l ∷ ls) = (place_of_label l.name ls ≡ None) × AreOnce ls

-- the lines are the statements xs, and no label is there twice
pub record Laid (lines : List (List ℕ)) (xs : List Sized) : Type 0 where
  pub read : AreRead lines xs
  pub once : AreOnce (labels_of xs)

-- ---- the program

-- the largest number of bytes of a program: a segment without the 100h bytes before it and the two of the stack's
-- first word after it
abbrev pub longest_program : ℕ
longest_program = 65278

-- the pieces are the bytes of the statements, one each, from an offset on
abbrev pub AreCoded : List Label → ℕ → List Sized → List (List ℕ) → Type 0
AreCoded labels at [] [] = Unit {0}
AreCoded labels at [] (p ∷ ps) = ⊥
AreCoded labels at (x ∷ xs) [] = ⊥
AreCoded labels at (x ∷ xs) (p ∷ ps) = Codes labels at x.statement.item p × AreCoded labels (at + length p) xs ps

-- the pieces, each the bytes of a statement, in one list
abbrev pub joined : List (List ℕ) → List ℕ
joined [] = []
joined (p ∷ ps) = p ++ joined ps

-- the text is a program with these bytes
pub record Assembles (text bytes : List ℕ) : Type 0 where
  pub statements : List Sized
  pub laid : Laid (lines_of text) statements
  pub room : total statements ≤ longest_program
  pub pieces : List (List ℕ)
  pub coded : AreCoded (labels_of statements) 0x100 statements pieces
  pub whole : bytes ≡ joined pieces

-- ---- refusals

-- line n of the text, counted from 1; the lines before it are the statements xs, with no label twice
pub record IsBehindGood (text : List ℕ) (n : ℕ) (line : List ℕ) (xs : List Sized) : Type 0 where
  pub before : List (List ℕ)
  pub after : List (List ℕ)
  pub parts : lines_of text ≡ before ++ line ∷ after
  pub number : n ≡ length before + 1
  pub laid : Laid before xs

-- statement n of a text, counted from 1, at the offset `at`; all lines are statements, no label is there twice, there
-- are not too many bytes, and the statements before it have bytes
pub record IsBehindCoded (text : List ℕ) (n : ℕ) (labels : List Label) (at : ℕ) (x : Sized) : Type 0 where
  pub before : List Sized
  pub after : List Sized
  pub laid : Laid (lines_of text) (before ++ x ∷ after)
  pub room : total (before ++ x ∷ after) ≤ longest_program
  pub number : n ≡ length before + 1
  pub labels_are : labels ≡ labels_of (before ++ x ∷ after)
  pub at_is : at ≡ 0x100 + total before
  pub pieces : List (List ℕ)
  pub coded : AreCoded labels 0x100 before pieces

-- the error of a text: the first line that is no statement with a length, or has the label of one before it; else too
-- many bytes; else the first line that names an unknown label, or has no bytes as something is out of range
pub data Refuses (text : List ℕ) : AssemblyRefusal → Type 0 where
  syntax : (n : ℕ) (line : List ℕ) (xs : List Sized) → IsBehindGood text n line xs → ((x : Sized) → Reads line x → ⊥) →
      Refuses text (refusal.Syntax n)
  twice : (n : ℕ) (line : List ℕ) (xs : List Sized) (x : Sized) → IsBehindGood text n line xs → Reads line x →
      (IsFree x.statement.label (labels_of xs) → ⊥) → Refuses text (refusal.Twice n)
  too_long : (xs : List Sized) → Laid (lines_of text) xs → longest_program < total xs → Refuses text refusal.TooLong
  unknown : (n : ℕ) (labels : List Label) (at : ℕ) (x : Sized) → IsBehindCoded text n labels at x →
      (Knows labels x.statement.item → ⊥) → Refuses text (refusal.Unknown n)
  range : (n : ℕ) (labels : List Label) (at : ℕ) (x : Sized) → IsBehindCoded text n labels at x →
      Knows labels x.statement.item → ((code : List ℕ) → Codes labels at x.statement.item code → ⊥) →
      Refuses text (refusal.Range n)

-- the result of assembling a text: its bytes, or its error
abbrev pub IsAnswer : List ℕ → Result (List ℕ) AssemblyRefusal → Type 0
IsAnswer text (Ok bytes) = Assembles text bytes
IsAnswer text (Err e) = Refuses text e
