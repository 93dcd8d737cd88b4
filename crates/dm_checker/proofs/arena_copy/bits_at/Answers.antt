use Rattle.std.proofs.Common.{arith}
use Rattle.dm_checker.proofs.Bits.{bits_of_eight}
use Rattle.dm_checker.proofs.arena_copy.bits_at.Goals as goal

pub returns-in-Some : goal.returns-in-Some
returns-in-Some c = bits_of_eight _ _ _ (omega arith) c.in-Some.ensures
