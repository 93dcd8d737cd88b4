use Rattle.std.proofs.Common.{arith, ◌+◌, ◌-◌, ◌*◌, ◌/◌, ◌%◌, ◌^◌}
use Rattle.dm_alu.specs.Width.{size}
use Rattle.dm_alu.specs.inner.Rotations.{bits_of, with_carry_above}
use Rattle.dm_alu.proofs.Back.{above, above_below, mod_turn, through_back, through_below, within}
use Rattle.dm_alu.proofs.Rotations.{through_right}
use Rattle.dm_alu.proofs.shifts.rotated_through_carry_right.Goals as goal

pub returns-clause-moved : goal.returns-clause-moved
returns-clause-moved c =
    let w = c.args.width in
    let x = with_carry_above w c.args.start in
    let k = c.args.count % (bits_of w + 1) in
    let y = x * (2 * size w + 1) / 2 ^ k in
    let h = above_below w c.args.start (omega arith) in
    let moved = through_right w c.args.start c.args.count (omega arith) in
    let back = through_back w x k h (mod_turn w c.args.count) in
    let below = through_below w x (bits_of w + 1 - k) h (omega arith) in
    let low = within w y in
    let high = above w y in
    cc
