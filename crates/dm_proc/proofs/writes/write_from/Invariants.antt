use Rattle.dm_proc.proofs.Writing.{IsWritten}
use Rattle.dm_proc.proofs.writes.write_from.Given as goal

abbrev pub invariant-loop-at : goal.invariant-loop-at
invariant-loop-at l = IsWritten l.initial.space l.segment l.from l.bytes l.at l.space
