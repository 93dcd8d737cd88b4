use Rattle.dm_checker.proofs.Collected.{Collecting, ahead}
use Rattle.dm_checker.proofs.arena_copy.collect.Given as goal

abbrev pub invariant-walk : goal.invariant-walk
invariant-walk l = Collecting l.initial.walked l.initial.out.items l.walked l.out.items

abbrev pub decreases-walk : goal.decreases-walk
decreases-walk l = ahead l.walked.at
