use Rattle.dm_views.proofs.ArenaTexts.{telling_none, telling_more, telling_nearer, telling_all, telling_destroyed}
use Rattle.dm_views.proofs.arena.put_list.Goals as goal

pub walk-init : goal.walk-init
walk-init c = telling_none c.args.headers _ c.requires

pub walk-preserved : goal.walk-preserved
walk-preserved c = telling_more c.args.headers _ _ _ c.walk.told c.advance.new.self _ c.walk.invariant
    c.advance.ensures.memory c.advance.ensures.second c.in-Told.ensures.met c.in_ok-put_entry-in-Told.ensures

pub walk-smaller : goal.walk-smaller
walk-smaller c = telling_nearer c.args.headers _ _ c.walk.told c.advance.new.self _ c.walk.invariant
    c.in-Told.ensures.met

pub returns-in-End : goal.returns-in-End
returns-in-End c = telling_all c.args.headers _ _ _ c.walk.told c.advance.new.self c.walk.invariant
    c.advance.ensures.memory c.advance.ensures.second c.in-End.ensures.met c.in_ok-put_end-in-End.ensures

pub returns-in-Destroyed : goal.returns-in-Destroyed
returns-in-Destroyed c = telling_destroyed c.args.headers _ _ _ c.walk.told c.advance.new.self _ c.walk.invariant
    c.in-Destroyed.ensures.met c.in_ok-put_destroyed-in-Destroyed.ensures
