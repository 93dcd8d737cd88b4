-- Labels and their places. A place is an offset in the program's segment.
use Rattle.std.specs.Prelude.{◌≡◌, ℕ, Option, Some, None, List, [], ◌∷◌, if◌then◌else◌}
use Rattle.std.specs.Str.{bytes_eq}
use Rattle.std.specs.Option.{option_map_or}
use Rattle.dm_lines.specs.declared.token.Name as Name'
use Rattle.dm_lines.specs.declared.term.Expression.{Expression}
use Rattle.dm_lines.specs.declared.term.Term.{Term}
use Rattle.dm_lines.specs.declared.term.Term.TheVariants as term

-- a label: its name, and its place
pub record Label : Type 0 where
  pub name : Name'.Name
  pub place : ℕ

-- the place of the first label with this name; None if there is none
abbrev pub place_of_label : Name'.Name → List Label → Option ℕ
place_of_label name [] = None
place_of_label name (l ∷ ls) = if bytes_eq l.name.bytes name.bytes then Some l.place else place_of_label name ls

-- the place of the label of a value; None if it is unknown, and 0 for a number alone
abbrev pub label_place : List Label → Expression → Option ℕ
label_place labels v = option_map_or (λ name. place_of_label name labels) v.label (Some 0)

-- the place of the label of an operand; None if it is unknown, and 0 if the operand names none
abbrev pub term_place : List Label → Term → Option ℕ
term_place labels (term.Address s v) = label_place labels v
term_place labels (term.Number v) = label_place labels v
term_place labels _ = Some 0

-- no label of the list has this name; true without a name
abbrev pub IsFree : Option Name'.Name → List Label → Type 0
IsFree None labels = Unit {0}
IsFree (Some name) labels = place_of_label name labels ≡ None
