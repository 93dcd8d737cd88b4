use Rattle.std.proofs.Common.{ap, ◌∙◌}
use Rattle.dm_history.specs.declared.change.Change.TheVariants.{Written}
use Rattle.dm_history.proofs.Keeping.{edited-history}
use Rattle.dm_history.proofs.history.History.write.Goals as goal

pub invariant_of-self-2 : goal.invariant_of-self-2
invariant_of-self-2 c =
    edited-history (record {
      beginning = c.self.inside.beginning;
      edits = c.self.inside.edits.items;
      machine = c.self.inside.machine;
    }) _ (Written c.args.segment c.args.offset c.args.bytes.now) _ _ _ _
    c.self.invariant c.steps-step.ensures
    (ap (λ bytes. Written c.args.segment c.args.offset bytes) (c.new-written.ensures
    ∙ c.in_ok-from_slice.ensures.items)) c.in_ok-push.ensures.items c.write.ensures
