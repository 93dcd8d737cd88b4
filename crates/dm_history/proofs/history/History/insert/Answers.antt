use Rattle.std.proofs.Common.{arith}
use Rattle.dm_history.proofs.Keeping.{history-inserted}
use Rattle.dm_history.proofs.history.History.insert.Goals as goal

pub invariant_of-self : goal.invariant_of-self
invariant_of-self c =
    history-inserted (record {
      beginning = c.self.inside.beginning;
      edits = c.self.inside.edits.items;
      machine = c.self.inside.machine;
    }) _ _ _ _ _ _ _ _ _ c.args.machine c.self.view_is c.self.invariant
    (omega (arith, c.steps-beginning.ensures))
    c.requires.before c.requires.was c.requires.loaded c.as_slice.ensures.value c.count_to-count.ensures
    c.truncate.ensures.items c.make_room.ensures c.put.ensures
