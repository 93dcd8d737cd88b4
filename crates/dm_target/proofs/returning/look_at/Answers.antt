use Rattle.std.proofs.Common.{ap, ◌∙◌}
use Rattle.dm_services.specs.state.State.{State}
use Rattle.dm_target.proofs.LastHits.{part_of}
use Rattle.dm_target.proofs.returning.look_at.Goals as goal

pub returns : goal.returns
returns c = part_of _ _ c.args.history.now _ _ _ _ _ c.in_ok-branch.ensures (c.steps-from.ensures
    ∙ ap (λ (s : State). s.steps) c.machine.ensures) c.in_ok-found.ensures
