use Rattle.std.proofs.Common.{refl}
use Rattle.dm_history.specs.declared.change.Change.TheVariants.{Registers}
use Rattle.dm_history.proofs.Keeping.{edited-history}
use Rattle.dm_history.proofs.history.History.set_registers.Goals as goal

pub invariant_of-self-2 : goal.invariant_of-self-2
invariant_of-self-2 c =
    edited-history (record {
      beginning = c.self.inside.beginning;
      edits = c.self.inside.edits.items;
      machine = c.self.inside.machine;
    }) _ (Registers c.args.registers) _ _ _ _ c.self.invariant c.steps-step.ensures
    refl c.in_ok-push.ensures.items
    c.set_registers.ensures
