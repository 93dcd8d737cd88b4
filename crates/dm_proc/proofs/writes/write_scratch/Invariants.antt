use Rattle.std.proofs.Common.{take}
use Rattle.dm_proc.proofs.Writing.{IsWritten}
use Rattle.dm_proc.proofs.writes.write_scratch.Given as goal

abbrev pub invariant-loop-at : goal.invariant-loop-at
invariant-loop-at l = IsWritten l.initial.space l.segment 0 (take l.count l.initial.space.scratch) l.at l.space
