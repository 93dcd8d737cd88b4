use Rattle.std.proofs.Common.{refl}
use Rattle.dm_history.proofs.Keeping.{beginning-history, beginning-view}
use Rattle.dm_history.proofs.history.History.restart.Goals as goal

pub invariant_of-self : goal.invariant_of-self
invariant_of-self c = beginning-history c.self.inside.beginning _ _ _ _ refl c.in_ok-machine.ensures
    c.truncate.ensures.items c.truncate-2.ensures.items c.self.invariant.beginning

pub returns-clause-ok : goal.returns-clause-ok
returns-clause-ok c =
    beginning-view (record {
      beginning = c.self.inside.beginning;
      edits = c.self.inside.edits.items;
      machine = c.self.inside.machine;
    }) _ _ _ c.self.view_is c.truncate.ensures.items c.in_ok-machine.ensures
