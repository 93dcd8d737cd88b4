use Rattle.std.proofs.Common.{◌≡◌, take, drop}
use Rattle.dm_lines.specs.Operands.{parts}
use Rattle.dm_lines.proofs.Parts.{before}
use Rattle.dm_lines.proofs.operands.front.Given as goal

abbrev pub invariant-loop-i : goal.invariant-loop-i
invariant-loop-i l = parts l.tokens ≡ before (take l.i l.tokens) (parts (drop l.i l.tokens))
