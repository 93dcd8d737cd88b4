use Rattle.std.proofs.Common.{arith}
use Rattle.std.proofs.lemmas.Bool.Decides.{nat_tests}
use Rattle.dm_alu.proofs.Rotations.{unmoved}
use Rattle.dm_alu.proofs.shifts.shifted_by.Goals as goal

pub returns-then-count-eq0-clause-moved : goal.returns-then-count-eq0-clause-moved
returns-then-count-eq0-clause-moved c = unmoved c.args.operation c.args.width c.args.count c.args.start (grind (
  arith,
  nat_tests,
))
