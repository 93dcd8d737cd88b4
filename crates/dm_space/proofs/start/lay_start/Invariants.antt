use Rattle.dm_space.proofs.Started.{LaidBelow}
use Rattle.dm_space.proofs.start.lay_start.Given as goal

abbrev pub invariant-loop-linear : goal.invariant-loop-linear
invariant-loop-linear l = LaidBelow l.fn.ram l.ram l.linear
