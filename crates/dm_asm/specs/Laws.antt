-- Laws of assembly: each text has one result, a listing is assembled to the bytes that it lists, and the bytes of a
-- program spell the instructions of its text.
use Rattle.std.specs.Prelude.{◌≡◌, ℕ, ◌+◌, ◌<◌, ◌≤◌, ◌^◌, List, ◌∷◌, ◌++◌, length, Some, Result, Ok}
use Rattle.std.specs.List.{AllByRecursion}
use Rattle.dm_ins.specs.declared.ins.Ins.{Ins}
use Rattle.dm_ins.specs.Preferred.{IsPreferred}
use Rattle.dm_decode.specs.declared.words.written.Words.{Words}
use Rattle.dm_decode.specs.words.Words.{AreWords}
use Rattle.dm_decode.specs.disassembly.Listing.{bytes_at, StandsInFile, IsListing}
use Rattle.dm_lines.specs.declared.statement.Instruction.{Instruction}
use Rattle.dm_lines.specs.Statements.{instruction}
use Rattle.dm_asm.specs.declared.refusal.AssemblyRefusal.{AssemblyRefusal}
use Rattle.dm_asm.specs.Labels.{Label}
use Rattle.dm_asm.specs.Codes.{placed_words}
use Rattle.dm_asm.specs.Lines.{lines_of}
use Rattle.dm_asm.specs.Programs.{Sized, Laid, labels_of, total, longest_program, Assembles, IsAnswer}

-- a text has one result: no two different programs, no two different errors, and not both a program and an error
abbrev pub TextsHaveOneAnswer : Type 0
TextsHaveOneAnswer = (text : List ℕ) (a b : Result (List ℕ) AssemblyRefusal) → IsAnswer text a → IsAnswer text b → a ≡ b

-- the listing of a program's bytes (`disassemble`) assembles to these bytes, if they are 65,278 at most
abbrev pub ListingsAssemble : Type 0
ListingsAssemble = (bytes text : List ℕ) → AllByRecursion (λ b. b < 2 ^ 8) bytes → length bytes ≤ longest_program →
    IsListing bytes text → Assembles text bytes

-- the listing of a program's bytes, at most 65,278, has no other result of assembly than these bytes: it is not refused
abbrev pub ListingsAreAnswered : Type 0
ListingsAreAnswered = (bytes text : List ℕ) (answer : Result (List ℕ) AssemblyRefusal) →
    AllByRecursion (λ b. b < 2 ^ 8) bytes → length bytes ≤ longest_program → IsListing bytes text →
    IsAnswer text answer → answer ≡ Ok bytes

-- the `long` bytes at a place of a program are the preferred bytes of an instruction of its text: of the instruction
-- of the table with its prefixes and operands
pub record IsSpelled (labels : List Label) (bytes : List ℕ) (at long : ℕ) (i : Instruction) : Type 0 where
  pub written : Words
  pub placed : placed_words labels (0x100 + at + long) i ≡ Some written
  pub ins : Ins
  pub prefixes : ins.prefixes ≡ i.prefixes
  pub words : AreWords written ins.action
  pub stands : StandsInFile bytes at ins long
  pub preferred : IsPreferred ins (bytes_at bytes at long)

-- the bytes of a program spell each instruction of its text, after the bytes of all statements before it
abbrev pub TextsAreSpelled : Type 0
TextsAreSpelled = (text bytes : List ℕ) (before after : List Sized) (x : Sized) (i : Instruction) →
    Assembles text bytes → Laid (lines_of text) (before ++ x ∷ after) → x.statement.item ≡ instruction i →
    IsSpelled (labels_of (before ++ x ∷ after)) bytes (total before) x.long i
