use Rattle.std.proofs.Common.{◌∙◌, ◌+◌, ◌-◌, ◌%◌, inl, inr, ap}
use Rattle.std.specs.Int.{from_bool}
use Rattle.dm_alu.specs.declared.shifts.Shifted.{Shifted}
use Rattle.dm_operations.proofs.Beyond.{left_beyond, right_beyond, sign_beyond, sign_bits, sign_top}
use Rattle.dm_operations.proofs.bits.moved_beyond.Goals as goal

pub returns-in-Left-clause-value : goal.returns-in-Left-clause-value
returns-in-Left-clause-value c =
    ap (λ (x : Shifted). x.value) (elim c.in-Left.is [
      | inl e ↦ left_beyond _ _ _ _ e c.requires.value c.requires.most
      | inr e ↦ right_beyond _ _ _ _ e c.requires.value c.requires.most
    ])

pub returns-in-Left-clause-carry : goal.returns-in-Left-clause-carry
returns-in-Left-clause-carry c =
    ap (λ (x : Shifted). x.carry) (elim c.in-Left.is [
      | inl e ↦ left_beyond _ _ _ _ e c.requires.value c.requires.most
      | inr e ↦ right_beyond _ _ _ _ e c.requires.value c.requires.most
    ])

pub returns-in-ArithmeticRight-clause-value : goal.returns-in-ArithmeticRight-clause-value
returns-in-ArithmeticRight-clause-value c =
    let b = c.is_negative.result in
    ap (λ s. (0 + (4294967296 - from_bool b)) % 4294967296 % s) c.size.ensures ∙ sign_bits c.args.width b
    ∙ ap (λ (x : Shifted). x.value) (sign_beyond _ _ _ _ b c.in-ArithmeticRight.is c.is_negative.ensures
    c.requires.value c.requires.most)

pub returns-in-ArithmeticRight-clause-carry : goal.returns-in-ArithmeticRight-clause-carry
returns-in-ArithmeticRight-clause-carry c =
    let b = c.is_negative.result in
    sign_top c.args.width b ∙ ap (λ (x : Shifted). x.carry) (sign_beyond _ _ _ _ b c.in-ArithmeticRight.is
    c.is_negative.ensures c.requires.value c.requires.most)
