-- The map in which the assembler keeps labels, and what the first pass hands to the second. For private contracts and
-- proofs alone.
use Rattle.std.specs.Prelude.{◌≡◌, ◌<◌, ◌≤◌, ◌^◌, ℕ, List, IfSome}
use Rattle.std.specs.Ordering.{nat_cmp}
use Rattle.std.specs.Cmp.Lexicographic.{slice_cmp}
use Rattle.std.specs.BTreeMap as tree
use Rattle.dm_lines.specs.declared.token.Name as Name'
use Rattle.dm_asm.specs.declared.labels.Labels.{Labels}
use Rattle.dm_asm.specs.declared.codes.Problem.{Problem}
use Rattle.dm_asm.specs.declared.codes.Problem.TheVariants as problem
use Rattle.dm_lines.specs.Statements.{Item}
use Rattle.dm_asm.specs.Lines.{lines_of}
use Rattle.dm_asm.specs.Programs.{Sized, Laid, total, longest_program, labels_of}
use Rattle.dm_asm.specs.Labels.{Label, place_of_label}
use Rattle.dm_asm.specs.Codes.{Codes, Knows}
use Rattle.dm_asm.specs.declared.known.Known.{Known}
use Rattle.dm_asm.specs.inner.Fixed.{AreKnown}

-- the map has the names of the list, each with its first place there, and no others
abbrev pub AreKept : Labels → List Label → Type 0
AreKept kept labels = (name : Name'.Name) → tree.get (slice_cmp nat_cmp) kept.places name.bytes
    ≡ place_of_label name labels

-- each place in the map is an offset, below 65,536
abbrev pub AreNear : Labels → Type 0
AreNear kept = (name : Name'.Name) → IfSome (tree.get (slice_cmp nat_cmp) kept.places name.bytes) (λ place. place
    < 2 ^ 16)

-- why a statement at an offset has no bytes: a label that is not in the list, or else a number or target that is out
-- of range
abbrev pub IsProblem : List Label → ℕ → Item → Problem → Type 0
IsProblem labels at item problem.Unknown = Knows labels item → ⊥
IsProblem labels at item problem.Range = Knows labels item × ((code : List ℕ) → Codes labels at item code → ⊥)

-- what the first pass returns: the lines of the text are statements, with no label twice and not too many bytes;
-- `kept` has their labels, and `known` the bytes that are known already
pub record AreLaid (text : List ℕ) (kept : Labels) (known : Known) : Type 0 where
  pub statements : List Sized
  pub laid : Laid (lines_of text) statements
  pub room : total statements ≤ longest_program
  pub keeps : AreKept kept (labels_of statements)
  pub knows : AreKnown statements known.lines.items known.bytes.items
