use Rattle.std.proofs.Common.{◌∙◌, refl}
use Rattle.dm_alu.proofs.Overflows.{difference-signs, unlike-sign, like-sign}
use Rattle.dm_alu.proofs.sums.difference_overflows.Goals as goal

pub returns-then-negative-is_negative : goal.returns-then-negative-is_negative
returns-then-negative-is_negative c =
    unlike-sign _ _ _ c.if-negative-is_negative.true
    ∙ difference-signs _ _ _ _ _ _ _ _ c.requires.first c.requires.second c.requires.difference
    c.is_negative-negative.ensures c.is_negative.ensures
    c.is_negative-then-negative-is_negative.ensures

pub returns-else-negative-is_negative : goal.returns-else-negative-is_negative
returns-else-negative-is_negative c =
    like-sign _ _ _ c.if-negative-is_negative.false
    ∙ difference-signs _ _ _ _ _ _ _ _ c.requires.first c.requires.second c.requires.difference
    c.is_negative-negative.ensures c.is_negative.ensures refl
