use Rattle.std.proofs.Common.{◌≡◌, ◌-◌, true, false, None, ap, subst, ◌∙◌, arith}
use Rattle.dm_services.specs.state.State.{State}
use Rattle.dm_target.specs.Going.{Continues}
use Rattle.dm_target.proofs.Searching.{stopped_seen, arrived_seen, hit_seen}
use Rattle.dm_target.proofs.returning.look_further.Goals as goal

pub returns-in_default : goal.returns-in_default
returns-in_default c =
    let m = c.args.branch.now.machine in
    let at : c.steps-at.result ≡ m.steps = c.steps-at.ensures ∙ ap (λ (s : State). s.steps) c.machine.ensures in
    let goes : Continues c.args.points.now c.args.watches.now None m (c.args.end - m.steps) c.go_on.result
    c.go_on.new.history.machine =
    subst (λ k. Continues c.args.points.now c.args.watches.now None m (c.args.end - k) c.go_on.result
    c.go_on.new.history.machine) at c.go_on.ensures.goes in
    record {
      more = λ e. absurd (let no : true ≡ false = e in cc);
      looked = λ o b r s. stopped_seen _ _ o m _ _ _ c.in-Stopped.stop c.go_on.result c.in-Stopped.is
          c.in_default.not-Memory b c.requires (omega arith) r s goes;
    }

pub returns-in-Arrived-clause-looked : goal.returns-in-Arrived-clause-looked
returns-in-Arrived-clause-looked c =
    let m = c.args.branch.now.machine in
    let at : c.steps-at.result ≡ m.steps = c.steps-at.ensures ∙ ap (λ (s : State). s.steps) c.machine.ensures in
    let goes : Continues c.args.points.now c.args.watches.now None m (c.args.end - m.steps) c.go_on.result
    c.go_on.new.history.machine =
    subst (λ k. Continues c.args.points.now c.args.watches.now None m (c.args.end - k) c.go_on.result
    c.go_on.new.history.machine) at c.go_on.ensures.goes in
    λ o b r s. arrived_seen _ _ o m _ _ _ _ _ c.go_on.result c.in-Arrived.is b c.requires
    (omega arith) s goes c.stand.ensures

pub returns-in-Hit-clause-looked : goal.returns-in-Hit-clause-looked
returns-in-Hit-clause-looked c =
    let m = c.args.branch.now.machine in
    let at : c.steps-at.result ≡ m.steps = c.steps-at.ensures ∙ ap (λ (s : State). s.steps) c.machine.ensures in
    let goes : Continues c.args.points.now c.args.watches.now None m (c.args.end - m.steps) c.go_on.result
    c.go_on.new.history.machine =
    subst (λ k. Continues c.args.points.now c.args.watches.now None m (c.args.end - k) c.go_on.result
    c.go_on.new.history.machine) at c.go_on.ensures.goes in
    let now : c.steps.result ≡ c.go_on.new.history.machine.steps = c.steps.ensures
    ∙ ap (λ (s : State). s.steps) c.machine-in-Hit.ensures in
    λ o b r s. hit_seen _ _ o m _ c.in-Hit.field-0 c.saturating_sub-step.result _ _ _ c.go_on.result c.in-Hit.is b
    c.requires (omega arith) (omega (arith, now, c.saturating_sub-step.ensures)) goes c.stand-in-Hit.ensures
