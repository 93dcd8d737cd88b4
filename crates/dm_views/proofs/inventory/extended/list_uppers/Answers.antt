use Rattle.std.proofs.Common.{◌++◌, ◌∙◌, Option, ap}
use Rattle.dm_xms.specs.declared.tables.Upper.{Upper}
use Rattle.dm_views.specs.inventory.Records.{record_list}
use Rattle.dm_views.specs.inventory.Extended.{upper_of}
use Rattle.dm_views.proofs.inventory.NumberedRecords.{records_none, records_more}
use Rattle.dm_views.proofs.inventory.extended.list_uppers.Goals as goal

pub loop-number-init : goal.loop-number-init
loop-number-init c = records_none _ _

pub loop-number-preserved : goal.loop-number-preserved
loop-number-preserved c = records_more _ _ _ _ _ c.loop-number.invariant (c.in_ok-put_upper.ensures
    ∙ ap (λ (u : Option Upper). c.loop-number.out.items ++ record_list (upper_of u)) c.upper_block.ensures)
