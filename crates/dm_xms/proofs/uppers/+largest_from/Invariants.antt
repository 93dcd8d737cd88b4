use Rattle.std.proofs.Common.{length}
use Rattle.dm_xms.proofs.uppers.+largest_from.Given as goal

abbrev pub decreases-largest_from : goal.decreases-largest_from
decreases-largest_from l = length l.uppers.now
