use Rattle.dm_views.proofs.ArenaLists.{second_told}
use Rattle.dm_views.proofs.arena.put_unlinked.Goals as goal

pub returns : goal.returns
returns c = second_told c.args.first.memory c.walk_second.result _ _ _ _ c.walk_second.ensures.memory
    c.walk_second.ensures.second c.in_ok-extend_from_slice.ensures.items c.in_ok-put_list.ensures
