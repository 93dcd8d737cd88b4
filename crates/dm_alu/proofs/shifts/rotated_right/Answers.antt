use Rattle.std.proofs.Common.{arith, ◌%◌}
use Rattle.dm_alu.specs.inner.Rotations.{bits_of}
use Rattle.dm_alu.proofs.Back.{mod_bits, turned_back}
use Rattle.dm_alu.proofs.Rotations.{turned_right}
use Rattle.dm_alu.proofs.shifts.rotated_right.Goals as goal

pub returns-clause-moved : goal.returns-clause-moved
returns-clause-moved c =
    let moved = turned_right c.args.width c.args.start c.args.count (omega arith) (omega arith) in
    let back = turned_back c.args.width c.args.start.value (c.args.count % bits_of c.args.width) (omega arith)
    (mod_bits c.args.width c.args.count) in
    cc
