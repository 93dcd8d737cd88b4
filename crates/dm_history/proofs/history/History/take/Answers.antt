use Rattle.dm_history.proofs.Keeping.{taken-history, taken-back}
use Rattle.dm_history.proofs.history.History.take.Goals as goal

pub invariant_of-self : goal.invariant_of-self
invariant_of-self c =
    taken-history (record {
      beginning = c.self.inside.beginning;
      edits = c.self.inside.edits.items;
      machine = c.self.inside.machine;
    }) _ _ _ _ _ _ _ _ _ c.self.view_is c.self.invariant c.requires.was
    c.requires.loaded c.as_slice.ensures.value
    c.count_to-count.ensures c.as_slice-2.ensures.value c.kept_to-kept.ensures c.truncate.ensures.items _
    c.truncate-2.ensures.items

pub returns : goal.returns
returns c =
    taken-back (record {
      beginning = c.self.inside.beginning;
      edits = c.self.inside.edits.items;
      machine = c.self.inside.machine;
    }) _ _ _ _ _ _ c.self.view_is c.requires.was c.as_slice.ensures.value
    c.count_to-count.ensures c.truncate.ensures.items
