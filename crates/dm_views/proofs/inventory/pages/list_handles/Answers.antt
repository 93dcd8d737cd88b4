use Rattle.dm_views.proofs.inventory.NumberedRecords.{records_none, records_more}
use Rattle.dm_views.proofs.inventory.pages.list_handles.Goals as goal

pub loop-number-init : goal.loop-number-init
loop-number-init c = records_none _ _

pub loop-number-preserved : goal.loop-number-preserved
loop-number-preserved c = records_more _ _ _ _ _ c.loop-number.invariant c.in_ok-put_handle.ensures
