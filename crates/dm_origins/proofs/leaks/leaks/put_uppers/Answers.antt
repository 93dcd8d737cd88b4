use Rattle.dm_origins.proofs.leaks.Leaked.{each_none, each_more}
use Rattle.dm_origins.proofs.leaks.leaks.put_uppers.Goals as goal

pub loop-number-init : goal.loop-number-init
loop-number-init c = each_none _ _

pub loop-number-preserved : goal.loop-number-preserved
loop-number-preserved c = each_more _ _ _ _ _ c.loop-number.invariant c.in_ok-put_upper.ensures
