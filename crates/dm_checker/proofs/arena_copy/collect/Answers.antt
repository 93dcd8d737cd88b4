use Rattle.dm_checker.proofs.Collected.{collecting_none, collecting_more, collecting_nearer, collecting_all, collecting_cut}
use Rattle.dm_checker.proofs.arena_copy.collect.Goals as goal

pub walk-init : goal.walk-init
walk-init c = collecting_none c.args.headers _ c.requires.at

pub walk-preserved : goal.walk-preserved
walk-preserved c = collecting_more c.args.space.now.memory c.args.headers _ _ _ c.walk.walked c.advance.new.self _
    c.copy_of.result c.requires.memory c.walk.invariant c.advance.ensures.memory c.advance.ensures.second
    c.in-Told.ensures.met c.copy_of.ensures.header c.copy_of.ensures.copied c.in_ok-push-in-Told.ensures.items

pub walk-smaller : goal.walk-smaller
walk-smaller c = collecting_nearer c.args.headers _ _ c.walk.walked c.advance.new.self _ c.walk.invariant
    c.in-Told.ensures.met

pub returns-in-End : goal.returns-in-End
returns-in-End c = collecting_all c.args.headers _ _ c.walk.walked c.advance.new.self c.walk.invariant
    c.advance.ensures.memory c.advance.ensures.second c.in-End.ensures.met

pub returns-in-Destroyed : goal.returns-in-Destroyed
returns-in-Destroyed c = collecting_cut c.args.headers _ _ c.walk.walked c.advance.new.self _ c.walk.invariant
    c.in-Destroyed.ensures.met
