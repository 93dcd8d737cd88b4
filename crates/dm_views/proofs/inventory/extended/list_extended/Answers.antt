use Rattle.dm_views.proofs.inventory.NumberedRecords.{records_none, records_more}
use Rattle.dm_views.proofs.inventory.extended.list_extended.Goals as goal

pub loop-before-init : goal.loop-before-init
loop-before-init c = records_none _ _

pub loop-before-preserved : goal.loop-before-preserved
loop-before-preserved c = records_more _ _ _ _ _ c.loop-before.invariant c.in_ok-put_block.ensures
