use Rattle.dm_origins.proofs.leaks.Leaked.{each_none, each_more}
use Rattle.dm_origins.proofs.leaks.leaks.put_handles.Goals as goal

pub loop-handle-init : goal.loop-handle-init
loop-handle-init c = each_none _ _

pub loop-handle-preserved : goal.loop-handle-preserved
loop-handle-preserved c = each_more _ _ _ _ _ c.loop-handle.invariant c.in_ok-put_handle.ensures
