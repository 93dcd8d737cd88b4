use Rattle.dm_origins.proofs.leaks.Leaked.{each_none, each_more}
use Rattle.dm_origins.proofs.leaks.leaks.put_windows.Goals as goal

pub loop-window-init : goal.loop-window-init
loop-window-init c = each_none _ _

pub loop-window-preserved : goal.loop-window-preserved
loop-window-preserved c = each_more _ _ _ _ _ c.loop-window.invariant c.in_ok-put_window.ensures
