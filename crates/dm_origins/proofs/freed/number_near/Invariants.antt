use Rattle.std.proofs.Common.{◌-◌, ◌≤◌, length}
use Rattle.dm_origins.proofs.freed.number_near.Given as goal

abbrev pub invariant-loop-number : goal.invariant-loop-number
invariant-loop-number l = l.number ≤ length l.old

abbrev pub decreases-loop-number : goal.decreases-loop-number
decreases-loop-number l = length l.old - l.number
