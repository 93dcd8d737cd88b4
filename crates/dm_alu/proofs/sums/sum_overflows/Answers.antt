use Rattle.std.proofs.Common.{◌∙◌, refl}
use Rattle.dm_alu.proofs.Overflows.{sum-signs, same-sign, other-sign}
use Rattle.dm_alu.proofs.sums.sum_overflows.Goals as goal

pub returns-then-negative-is_negative : goal.returns-then-negative-is_negative
returns-then-negative-is_negative c =
    same-sign _ _ _ c.if-negative-is_negative.true
    ∙ sum-signs _ _ _ _ _ _ _ _ c.requires.first c.requires.second c.requires.sum c.is_negative-negative.ensures
    c.is_negative.ensures
    c.is_negative-then-negative-is_negative.ensures

pub returns-else-negative-is_negative : goal.returns-else-negative-is_negative
returns-else-negative-is_negative c =
    other-sign _ _ _ c.if-negative-is_negative.false
    ∙ sum-signs _ _ _ _ _ _ _ _ c.requires.first c.requires.second c.requires.sum c.is_negative-negative.ensures
    c.is_negative.ensures refl
