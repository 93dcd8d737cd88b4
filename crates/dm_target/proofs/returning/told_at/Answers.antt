use Rattle.std.proofs.Common.{sym, subst, ap, arith}
use Rattle.std.proofs.lemmas.Result.{IfOk-weaker}
use Rattle.dm_services.specs.state.State.{State}
use Rattle.dm_target.specs.Returning.{Meets}
use Rattle.dm_target.specs.inner.Surveying.{IsMet}
use Rattle.dm_target.proofs.LastHits.{branch_at}
use Rattle.dm_target.proofs.returning.told_at.Goals as goal

pub returns : goal.returns
returns c =
    let now = ap (λ (s : State). s.steps) c.machine.ensures in
    IfOk-weaker c.told.result _ _ (λ what h. λ points s was met.
    let same = branch_at c.args.history.now c.in_ok-branch.branch c.args.step s (omega (
      arith,
      c.requires.before,
      now,
      c.steps-now.ensures,
    )) c.in_ok-branch.ensures was in
    subst (λ (u : State). Meets points c.args.watches.now u what) (sym same)
    (h points (subst (λ (u : State). IsMet points c.args.watches.now u) same met))) c.told.ensures
