use Rattle.std.proofs.Common.{arith}
use Rattle.dm_debug.proofs.Entered.{all_entered}
use Rattle.dm_debug.proofs.runs.enter.Goals as goal

pub returns : goal.returns
returns c = all_entered _ _ _ _ _ _ _ (omega arith) (omega arith) c.loop-byte.invariant.others
    c.loop-byte.invariant.left
