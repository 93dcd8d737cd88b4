-- Slices of tokens, as the code has them, as lists. For private contracts and proofs alone.
use Rattle.std.specs.Prelude.{◌-◌, List, [], Option, Some, None, ◌%◌, ◌∷◌, if◌then◌else◌}
use Rattle.std.specs.Borrow.{Bor}
use Rattle.dm_ins.specs.Walks.{◌>>=◌}
use Rattle.dm_lines.specs.declared.token.Token.{Token}
use Rattle.dm_lines.specs.declared.token.Token.TheVariants as t
use Rattle.dm_lines.specs.declared.term.Term.TheVariants as term
use Rattle.dm_lines.specs.Operands.{parts}

-- a result of the code with the tokens after it, a slice, as a list
abbrev pub seen : {A : Type 0} → Option (A × Bor (List Token)) → Option (A × List Token)
seen None = None
seen (Some x) = Some (x.0, x.1.now)

-- a slice of tokens as a list
abbrev pub option_now : Option (Bor (List Token)) → Option (List Token)
option_now None = None
option_now (Some x) = Some x.now

-- the parts of the tokens after a comma; none without a comma
abbrev pub parts_behind : Option (Bor (List Token)) → List (List Token)
parts_behind None = []
parts_behind (Some ts) = parts ts.now
