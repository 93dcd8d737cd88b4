use Rattle.std.proofs.Common.{arith, ◌+◌, ◌*◌, ◌%◌}
use Rattle.dm_alu.specs.Width.{size}
use Rattle.dm_alu.specs.inner.Rotations.{bits_of, rotated, with_carry_above}
use Rattle.dm_alu.proofs.Back.{above, above_below, mod_turn, through_below}
use Rattle.dm_alu.proofs.Rotations.{through_left}
use Rattle.dm_alu.proofs.shifts.rotated_through_carry_left.Goals as goal

pub returns-clause-moved : goal.returns-clause-moved
returns-clause-moved c =
    let w = c.args.width in
    let x = with_carry_above w c.args.start in
    let k = c.args.count % (bits_of w + 1) in
    let h = above_below w c.args.start (omega arith) in
    let few = mod_turn w c.args.count in
    let moved = through_left w c.args.start c.args.count (omega arith) in
    let below = through_below w x k h (omega arith) in
    let high = above w (rotated (2 * size w) x k) in
    cc
