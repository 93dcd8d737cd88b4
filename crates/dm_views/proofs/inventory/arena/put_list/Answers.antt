use Rattle.std.proofs.Common.{◌++◌, ◌∷◌, [], ◌∙◌, ap}
use Rattle.dm_views.specs.declared.inventory.arena.ArenaBlock.{ArenaBlock}
use Rattle.dm_views.proofs.inventory.ArenaRecords.{telling_none, telling_more, telling_nearer, telling_all, telling_destroyed}
use Rattle.dm_views.proofs.inventory.arena.put_list.Goals as goal

pub walk-init : goal.walk-init
walk-init c = telling_none c.args.headers _ _ c.requires

pub walk-preserved : goal.walk-preserved
walk-preserved c = telling_more c.args.headers _ _ _ _ c.walk.told c.advance.new.self _ c.walk.invariant
    c.advance.ensures.memory c.advance.ensures.second c.in-Told.ensures.met
    (c.in_ok-push-in-Told.ensures.items ∙ ap (λ (b : ArenaBlock). c.walk.out.items ++ b ∷ []) c.block_of.ensures)

pub walk-smaller : goal.walk-smaller
walk-smaller c = telling_nearer c.args.headers _ _ _ c.walk.told c.advance.new.self _ c.walk.invariant
    c.in-Told.ensures.met

pub returns-in-End : goal.returns-in-End
returns-in-End c = telling_all c.args.headers _ _ _ c.walk.told c.advance.new.self c.walk.invariant
    c.advance.ensures.memory c.advance.ensures.second c.in-End.ensures.met

pub returns-in-Destroyed : goal.returns-in-Destroyed
returns-in-Destroyed c = telling_destroyed c.args.headers _ _ _ c.walk.told c.advance.new.self _ c.walk.invariant
    c.in-Destroyed.ensures.met
