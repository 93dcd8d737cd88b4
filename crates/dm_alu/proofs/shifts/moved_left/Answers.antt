use Rattle.std.proofs.Common.{arith}
use Rattle.std.proofs.lemmas.Nat.{shl_whole}
use Rattle.dm_alu.proofs.Rotations.{moved_left, size_le}
use Rattle.dm_alu.proofs.shifts.moved_left.Goals as goal

pub returns-clause-moved : goal.returns-clause-moved
returns-clause-moved c =
    let moved = moved_left c.args.width c.args.start c.args.count (omega arith) in
    let whole = shl_whole c.with_carry_above.result 17 c.at_most_seventeen.result 64 (omega (
      arith,
      size_le c.args.width,
    )) (omega arith) in
    cc
