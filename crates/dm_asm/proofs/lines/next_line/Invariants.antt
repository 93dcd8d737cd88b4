use Rattle.std.proofs.Common.{take}
use Rattle.dm_asm.proofs.Ends.{IsOpen}
use Rattle.dm_asm.proofs.lines.next_line.Given as goal

abbrev pub invariant-loop-at : goal.invariant-loop-at
invariant-loop-at l = IsOpen (take l.at l.text)
