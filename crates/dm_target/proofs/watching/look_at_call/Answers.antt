use Rattle.std.proofs.Common.{◌∙◌, ap}
use Rattle.dm_services.specs.state.State.{State}
use Rattle.dm_target.specs.inner.Looking.{wants}
use Rattle.dm_target.proofs.Looking.{looks_as, changed_hits}
use Rattle.dm_target.proofs.watching.look_at_call.Goals as goal

pub returns-in_default-clause-looks : goal.returns-in_default-clause-looks
returns-in_default-clause-looks c = wants c.requires.there.0 c.requires.watched c.requires.there.1

pub returns-clause-looks : goal.returns-clause-looks
returns-clause-looks c =
    looks_as c.args.watches.now c.args.history.now.machine c.run-stop.new.self.machine c.run-stop.result
    c.first_changed-hit.result c.pause_at.result c.run-stop.ensures.run c.pause_at.ensures (λ all.
    changed_hits c.args.watches.now c.args.history.now.machine c.run-stop.new.self.machine c.requires.there.0
    c.space.result.now.memory c.space-2.result.now.memory c.first_changed-hit.result c.as_slice.result.now
    c.requires.there.1
    (c.space.ensures ∙ ap (λ (m : State). m.memory) c.machine.ensures) (c.space-2.ensures
    ∙ ap (λ (m : State). m.memory) c.machine-2.ensures) (c.as_slice.ensures.value
    ∙ c.in-Ok.ensures) c.first_changed-hit.ensures)
