use Rattle.std.proofs.Common.{◌<◌, length}
use Rattle.dm_history.proofs.copies.spare.Given as goal

-- the index is one of a copy
abbrev pub invariant-loop-i : goal.invariant-loop-i
invariant-loop-i l = l.least < length l.copies
