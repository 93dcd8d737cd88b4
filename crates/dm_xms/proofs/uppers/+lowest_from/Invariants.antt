use Rattle.std.proofs.Common.{length}
use Rattle.dm_xms.proofs.uppers.+lowest_from.Given as goal

abbrev pub decreases-lowest_from : goal.decreases-lowest_from
decreases-lowest_from l = length l.uppers.now
