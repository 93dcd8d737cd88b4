use Rattle.std.proofs.Common.{ℕ, Option, Some, None, ap, subst, arith}
use Rattle.dm_services.specs.state.State.{State}
use Rattle.dm_history.specs.Timelines.{Timeline, Was, GoesBack}
use Rattle.dm_target.specs.Returning.{Meets, begun, to_start}
use Rattle.dm_target.specs.inner.Surveying.{IsMet, IsLast}
use Rattle.dm_target.proofs.LastHits.{back_met}
use Rattle.dm_target.proofs.returning.turn_back.Goals as goal

pub returns-then-steps-beginning-clause-ok : goal.returns-then-steps-beginning-clause-ok
returns-then-steps-beginning-clause-ok c =
    let now = ap (λ (s : State). s.steps) c.machine.ensures in
    begun (omega (arith, now, c.steps.ensures, c.steps_of_beginning-beginning.ensures, c.if-steps-beginning.true))

pub returns-in_ok-go_back-in-None-clause-ok : goal.returns-in_ok-go_back-in-None-clause-ok
returns-in_ok-go_back-in-None-clause-ok c =
    let p = c.args.history.now in
    let now = ap (λ (s : State). s.steps) c.machine.ensures in
    let last : IsLast c.args.points.now c.args.watches.now p None =
    subst (λ (x : Option ℕ). IsLast c.args.points.now c.args.watches.now p x) c.in-None.is
    c.in_ok-find_last.ensures in
    to_start c.go_back.new.history (omega (
      arith,
      now,
      c.steps.ensures,
      c.steps_of_beginning-beginning.ensures,
      c.if-steps-beginning.false,
    ))
    (subst (λ k. GoesBack p k c.go_back.new.history) c.steps_of_beginning-beginning.ensures
    c.in_ok-go_back-in-None.ensures.ok) last

pub returns-in_ok-go_back-in-Some-clause-ok : goal.returns-in_ok-go_back-in-Some-clause-ok
returns-in_ok-go_back-in-Some-clause-ok c =
    let p = c.args.history.now in
    let ps = c.args.points.now in
    let ws = c.args.watches.now in
    let q = c.go_back-in-Some.new.history in
    let step = c.in-Some.step in
    let what = c.in_ok-what-in-Some.what in
    let now = ap (λ (s : State). s.steps) c.machine.ensures in
    let last : IsLast ps ws p (Some step) = subst (λ (x : Option ℕ). IsLast ps ws p x) c.in-Some.is
    c.in_ok-find_last.ensures in
    let back : GoesBack p step q = subst (λ (r : Timeline). GoesBack r step q) c.approach.ensures
    c.in_ok-go_back-in-Some.ensures.ok in
    let told : (s : State) → Was p step s → IsMet ps ws s → Meets ps ws s what =
    subst (λ (r : Timeline). (s : State) → Was r step s → IsMet ps ws s → Meets ps ws s what) c.approach.ensures
    (c.in_ok-what-in-Some.ensures ps) in
    back_met ps ws p q step what (omega (arith, now, c.steps.ensures)) last back told
