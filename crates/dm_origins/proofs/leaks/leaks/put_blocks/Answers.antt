use Rattle.dm_origins.proofs.leaks.Leaked.{each_none, each_more}
use Rattle.dm_origins.proofs.leaks.leaks.put_blocks.Goals as goal

pub loop-before-init : goal.loop-before-init
loop-before-init c = each_none _ _

pub loop-before-preserved : goal.loop-before-preserved
loop-before-preserved c = each_more _ _ _ _ _ c.loop-before.invariant c.in_ok-put_block.ensures
