use Rattle.dm_views.proofs.inventory.ArenaRecords.{Telling, ahead}
use Rattle.dm_views.proofs.inventory.arena.put_list.Given as goal

abbrev pub invariant-walk : goal.invariant-walk
invariant-walk l = Telling l.initial.told l.list l.initial.out.items l.told l.out.items

abbrev pub decreases-walk : goal.decreases-walk
decreases-walk l = ahead l.told.at
