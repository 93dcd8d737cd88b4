use Rattle.std.proofs.Common.{arith}
use Rattle.dm_space.proofs.Started.{laid-none, laid-all}
use Rattle.dm_space.proofs.start.lay_start.Goals as goal

pub loop-linear-init : goal.loop-linear-init
loop-linear-init c = laid-none _

pub returns : goal.returns
returns c = laid-all _ _ c.loop-linear.linear (omega arith) c.loop-linear.invariant
