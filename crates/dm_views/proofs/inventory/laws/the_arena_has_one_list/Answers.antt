use Rattle.dm_views.proofs.inventory.ArenaOnce.{arena_once}
use Rattle.dm_views.proofs.inventory.laws.the_arena_has_one_list.Goals as goal

pub returns : goal.returns
returns c = arena_once
