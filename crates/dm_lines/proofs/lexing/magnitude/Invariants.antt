use Rattle.std.proofs.Common.{◌≡◌, drop}
use Rattle.dm_lines.specs.Tokens.{magnitude_of}
use Rattle.dm_lines.proofs.lexing.magnitude.Given as goal

abbrev pub invariant-loop-byte : goal.invariant-loop-byte
invariant-loop-byte l = magnitude_of l.base l.n (drop l.byte-index l.digits) ≡ magnitude_of l.base 0 l.digits
