use Rattle.std.proofs.Common.{◌≡◌, length}
use Rattle.dm_ins.specs.Spelling.{no_prefix}
use Rattle.dm_lines.specs.Statements.{prefixed}
use Rattle.dm_lines.proofs.statements.read_prefixes.Given as goal

abbrev pub invariant-loop-rest : goal.invariant-loop-rest
invariant-loop-rest l = prefixed l.found l.rest ≡ prefixed no_prefix l.tokens

abbrev pub decreases-loop-rest : goal.decreases-loop-rest
decreases-loop-rest l = length l.rest
