use Rattle.std.proofs.Common.{arith}
use Rattle.dm_alu.proofs.Signed.{right_by}
use Rattle.dm_alu.proofs.shifts.moved_right.Goals as goal

pub returns-clause-moved : goal.returns-clause-moved
returns-clause-moved c =
    let moved = right_by c.args.width c.args.start c.args.count (omega arith) (omega arith) in
    cc
