use Rattle.std.proofs.Common.{◌∙◌, ap, arith, ◌+◌, ◌*◌, ◌/◌, ◌%◌, nat_eq, nat_le}
use Rattle.dm_alu.specs.declared.shifts.Shifted.{Shifted}
use Rattle.dm_alu.specs.Width.{size}
use Rattle.dm_alu.specs.inner.Rotations.{bits_of, rotated, with_carry_above}
use Rattle.dm_alu.proofs.Back.{above, above_below, mod_turn, through_below}
use Rattle.dm_alu.proofs.Rotations.{through_left}
use Rattle.dm_operations.proofs.bits.turned_left_often.Goals as goal

pub returns-clause-value : goal.returns-clause-value
returns-clause-value c =
    let w = c.args.width in
    let k = c.args.count % (bits_of w + 1) in
    let turned = c.turned_by.ensures ∙ ap (λ n. rotated (2 * size w) n k) c.with_carry.ensures in
    c.out_of.ensures.value ∙ ap (λ t. t % size w) turned
    ∙ ap (λ (x : Shifted). x.value) (through_left w c.args.start c.args.count c.requires)

pub returns-clause-carry : goal.returns-clause-carry
returns-clause-carry c =
    let w = c.args.width in
    let x = with_carry_above w c.args.start in
    let k = c.args.count % (bits_of w + 1) in
    let few = mod_turn w c.args.count in
    let turned = c.turned_by.ensures ∙ ap (λ n. rotated (2 * size w) n k) c.with_carry.ensures in
    let below = through_below w x k (above_below w c.args.start c.requires) (omega arith) in
    c.out_of.ensures.carry ∙ ap (λ t. nat_eq (t / size w % 2) 1) turned ∙ above w (rotated (2 * size w) x k)
    ∙ ap (nat_le (size w)) below
    ∙ ap (λ (x : Shifted). x.carry) (through_left w c.args.start c.args.count c.requires)
