use Rattle.std.proofs.Common.{◌≤◌, sym, subst}
use Rattle.dm_services.specs.state.State.{State, HasProgram}
use Rattle.dm_history.proofs.Going.{known-of, was-of}
use Rattle.dm_history.proofs.history.History.rebuilt.Goals as goal

pub replay-requires-clause-known : goal.replay-requires-clause-known
replay-requires-clause-known c =
    known-of c.args.self.now _ _ _ _ _ _ _ _ c.self.view_is c.as_slice.ensures.value c.as_slice-2.ensures.value
    c.count_to-count.ensures c.in_ok-machine.ensures c.requires.before c.base-made.ensures

pub replay-requires-clause-before : goal.replay-requires-clause-before
replay-requires-clause-before c = subst (λ (s : State). s.steps ≤ c.args.step) (sym c.in_ok-machine.ensures)
    c.base-made.ensures.before

pub replay-requires-clause-loaded : goal.replay-requires-clause-loaded
replay-requires-clause-loaded c = subst (λ (s : State). HasProgram s) (sym c.in_ok-machine.ensures)
    c.base-made.ensures.loaded

pub returns-clause-was : goal.returns-clause-was
returns-clause-was c =
    was-of c.args.self.now _ _ _ _ _ _ _ _ _ c.self.view_is c.as_slice.ensures.value c.as_slice-2.ensures.value
    c.count_to-count.ensures c.in_ok-machine.ensures c.base-made.ensures c.in_ok-replay.ensures.ok

pub returns-clause-loaded : goal.returns-clause-loaded
returns-clause-loaded c = c.in_ok-replay.ensures.loaded
