use Rattle.std.proofs.Common.{length}
use Rattle.dm_blocks.proofs.frame.+first_showing.Given as goal

abbrev pub decreases-first_showing : goal.decreases-first_showing
decreases-first_showing l = length l.windows.now
