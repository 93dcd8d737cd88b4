use Rattle.std.proofs.Common.{◌∙◌, ap, inl, refl, false}
use Rattle.dm_alu.specs.declared.shifts.Shifted.{Shifted}
use Rattle.dm_alu.specs.declared.shifts.ShiftOperation.TheVariants.{Left}
use Rattle.dm_operations.proofs.Unshifted.{shifts_alike}
use Rattle.dm_operations.proofs.bits.moved_left.Goals as goal

pub returns-clause-value : goal.returns-clause-value
returns-clause-value c =
    ap (λ (x : Shifted). x.value) (c.shifted_by-moved.ensures.moved
    ∙ shifts_alike Left c.args.width c.args.count c.args.start.value false c.args.start.carry
    (inl refl) c.requires.some)

pub returns-clause-carry : goal.returns-clause-carry
returns-clause-carry c =
    c.carry_above.ensures
    ∙ ap (λ (x : Shifted). x.carry) (c.shifted_by-moved.ensures.moved
    ∙ shifts_alike Left c.args.width c.args.count c.args.start.value false c.args.start.carry
    (inl refl) c.requires.some)
