use Rattle.std.proofs.Common.{arith}
use Rattle.dm_history.proofs.Nears.{history-near}
use Rattle.dm_history.proofs.history.History.go_near.Goals as goal

pub invariant_of-self : goal.invariant_of-self
invariant_of-self c =
    history-near (record {
      beginning = c.self.inside.beginning;
      edits = c.self.inside.edits.items;
      machine = c.self.inside.machine;
    }) _ _ _ _ (omega (arith, c.steps-before.ensures)) c.self.invariant
    c.run_near.ensures.near
    c.run_near.ensures.loaded
