use Rattle.std.proofs.Common.{arith}
use Rattle.dm_alu.proofs.Rotations.{turned_left}
use Rattle.dm_alu.proofs.shifts.rotated_left.Goals as goal

pub returns-clause-moved : goal.returns-clause-moved
returns-clause-moved c =
    let moved = turned_left c.args.width c.args.start c.args.count (omega arith) (omega arith) in
    cc
