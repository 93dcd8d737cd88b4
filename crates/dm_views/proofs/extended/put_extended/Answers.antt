use Rattle.std.proofs.Common.{◌++◌, ◌∙◌, Option, ap}
use Rattle.dm_xms.specs.declared.tables.Upper.{Upper}
use Rattle.dm_views.specs.Extended.{upper_line}
use Rattle.dm_views.proofs.NumberedTexts.{numbered_none, numbered_more}
use Rattle.dm_views.proofs.extended.put_extended.Goals as goal

pub loop-before-init : goal.loop-before-init
loop-before-init c = numbered_none _ _

pub loop-before-preserved : goal.loop-before-preserved
loop-before-preserved c = numbered_more _ _ _ _ _ c.loop-before.invariant c.in_ok-put_block.ensures

pub loop-number-init : goal.loop-number-init
loop-number-init c = numbered_none _ _

pub loop-number-preserved : goal.loop-number-preserved
loop-number-preserved c = numbered_more _ _ _ _ _ c.loop-number.invariant (c.in_ok-put_upper.ensures
    ∙ ap (λ (u : Option Upper). c.loop-number.out.items ++ upper_line u) c.upper_block.ensures)
