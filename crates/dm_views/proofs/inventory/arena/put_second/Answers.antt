use Rattle.dm_views.proofs.inventory.ArenaLists.{second_told}
use Rattle.dm_views.proofs.inventory.arena.put_second.Goals as goal

pub returns : goal.returns
returns c = rw c.end_of.ensures (second_told c.args.first.memory c.walk_second.result c.in_ok-walked.walked _ _
    c.walk_second.ensures.memory c.walk_second.ensures.second c.in_ok-walked.ensures)
