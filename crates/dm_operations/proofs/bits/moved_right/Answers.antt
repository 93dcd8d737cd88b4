use Rattle.std.proofs.Common.{◌∙◌, ◌-◌, ◌/◌, ◌%◌, ◌^◌, ap, sym, nat_eq}
use Rattle.dm_alu.specs.Shifts.{moves}
use Rattle.dm_alu.specs.Width.{size}
use Rattle.dm_operations.proofs.Rights.{plain_value, plain_carry, sign_value, sign_carry}
use Rattle.dm_operations.proofs.bits.moved_right.Goals as goal

pub returns-in-LogicalRight-clause-value : goal.returns-in-LogicalRight-clause-value
returns-in-LogicalRight-clause-value c =
    let w = c.args.width in
    c.moved_right_by.ensures.value ∙ plain_value w c.args.start c.args.count c.requires.value c.requires.some
    c.requires.most
    ∙ ap (λ o. (moves o w c.args.count c.args.start).value) (sym c.in-LogicalRight.is)

pub returns-in-LogicalRight-clause-carry : goal.returns-in-LogicalRight-clause-carry
returns-in-LogicalRight-clause-carry c =
    let w = c.args.width in
    c.moved_right_by.ensures.carry ∙ plain_carry w c.args.start c.args.count c.requires.value c.requires.some
    c.requires.most
    ∙ ap (λ o. (moves o w c.args.count c.args.start).carry) (sym c.in-LogicalRight.is)

pub returns-in-ArithmeticRight-clause-value : goal.returns-in-ArithmeticRight-clause-value
returns-in-ArithmeticRight-clause-value c =
    let w = c.args.width in
    c.moved_right_by-in-ArithmeticRight.ensures.value ∙ ap (λ n. n / 2 ^ c.args.count % size w) c.with_sign.ensures
    ∙ sign_value w c.args.start c.args.count c.requires.value c.requires.some c.requires.most
    ∙ ap (λ o. (moves o w c.args.count c.args.start).value) (sym c.in-ArithmeticRight.is)

pub returns-in-ArithmeticRight-clause-carry : goal.returns-in-ArithmeticRight-clause-carry
returns-in-ArithmeticRight-clause-carry c =
    let w = c.args.width in
    c.moved_right_by-in-ArithmeticRight.ensures.carry ∙ ap (λ n. nat_eq (n / 2 ^ (c.args.count - 1) % 2) 1)
    c.with_sign.ensures
    ∙ sign_carry w c.args.start c.args.count c.requires.value c.requires.some c.requires.most
    ∙ ap (λ o. (moves o w c.args.count c.args.start).carry) (sym c.in-ArithmeticRight.is)
