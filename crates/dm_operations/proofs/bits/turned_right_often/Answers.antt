use Rattle.std.proofs.Common.{◌∙◌, ap, arith, ◌+◌, ◌-◌, ◌*◌, ◌/◌, ◌%◌, ◌^◌, nat_eq, nat_le}
use Rattle.dm_alu.specs.declared.shifts.Shifted.{Shifted}
use Rattle.dm_alu.specs.Width.{size}
use Rattle.dm_alu.specs.inner.Rotations.{bits_of, with_carry_above}
use Rattle.dm_alu.proofs.Back.{above, above_below, mod_turn, through_back, through_below, within}
use Rattle.dm_alu.proofs.Rotations.{through_right}
use Rattle.dm_operations.proofs.bits.turned_right_often.Goals as goal

pub returns-clause-value : goal.returns-clause-value
returns-clause-value c =
    let w = c.args.width in
    let x = with_carry_above w c.args.start in
    let k = c.args.count % (bits_of w + 1) in
    let y = x * (2 * size w + 1) / 2 ^ k in
    let h = above_below w c.args.start c.requires in
    let turned = c.turned_back_by.ensures ∙ ap (λ n. n * (2 * size w + 1) / 2 ^ k) c.with_carry.ensures in
    let back = through_back w x k h (mod_turn w c.args.count) ∙ through_below w x (bits_of w + 1 - k) h (omega arith) in
    c.out_of.ensures.value ∙ ap (λ t. t % size w) turned ∙ within w y ∙ ap (λ t. t % size w) back
    ∙ ap (λ (x : Shifted). x.value) (through_right w c.args.start c.args.count c.requires)

pub returns-clause-carry : goal.returns-clause-carry
returns-clause-carry c =
    let w = c.args.width in
    let x = with_carry_above w c.args.start in
    let k = c.args.count % (bits_of w + 1) in
    let y = x * (2 * size w + 1) / 2 ^ k in
    let h = above_below w c.args.start c.requires in
    let turned = c.turned_back_by.ensures ∙ ap (λ n. n * (2 * size w + 1) / 2 ^ k) c.with_carry.ensures in
    let back = through_back w x k h (mod_turn w c.args.count) ∙ through_below w x (bits_of w + 1 - k) h (omega arith) in
    c.out_of.ensures.carry ∙ ap (λ t. nat_eq (t / size w % 2) 1) turned ∙ above w y ∙ ap (nat_le (size w)) back
    ∙ ap (λ (x : Shifted). x.carry) (through_right w c.args.start c.args.count c.requires)
