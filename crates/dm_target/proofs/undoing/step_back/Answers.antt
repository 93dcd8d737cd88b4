use Rattle.std.proofs.Common.{◌≡◌, ◌∙◌, ℕ, ◌-◌, ◌<◌, Bool, true, Result, Ok, sym, ap, subst, arith}
use Rattle.dm_space.specs.Memory.{Memory}
use Rattle.dm_services.specs.state.State.{State}
use Rattle.dm_history.specs.Timelines.{GoesBack}
use Rattle.dm_target.specs.declared.undoing.Undone.{Undone}
use Rattle.dm_target.specs.Undoing.{HitBy, Undoes, begun, undone}
use Rattle.dm_target.specs.inner.Looking.{all_bytes}
use Rattle.dm_target.proofs.undoing.step_back.Goals as goal

-- a result that is a value, which is true
is_ok_true : {E : Type 0} → (r : Result Bool E) (b : Bool) → r ≡ Ok b → b ≡ true → r ≡ Ok true
is_ok_true r b e f = e ∙ ap (λ (x : Bool). Ok x) f

pub returns-then-now-steps_of_beginning-clause-ok : goal.returns-then-now-steps_of_beginning-clause-ok
returns-then-now-steps_of_beginning-clause-ok c =
    let now : c.steps-now.result ≡ c.args.history.now.machine.steps = c.steps-now.ensures
    ∙ ap (λ (m : State). m.steps) c.machine.ensures in
    begun (omega (arith, now, c.steps_of_beginning.ensures, c.if-now-steps_of_beginning.true))

pub returns-clause-ok : goal.returns-clause-ok
returns-clause-ok c =
    let p = c.args.history.now in
    let q = c.go_back_to.new.self in
    let ws = c.args.watches.now in
    let now : c.steps-now.result ≡ p.machine.steps = c.steps-now.ensures
    ∙ ap (λ (m : State). m.steps) c.machine.ensures in
    let since : p.beginning.steps < p.machine.steps = omega (
      arith,
      now,
      c.steps_of_beginning.ensures,
      c.if-now-steps_of_beginning.false,
    ) in
    let back : GoesBack p (p.machine.steps - 1) q =
    subst (λ (k : ℕ). GoesBack p (k - 1) q) now (c.go_back_to.ensures.back
    (is_ok_true c.go_back_to.result c.in_ok-go_back_to.field-0 c.in_ok-go_back_to.was c.if-not-branch.false)) in
    let after : c.as_slice.result.now ≡ all_bytes p.machine.memory ws =
    c.as_slice.ensures.value ∙ c.in_ok-after.ensures ∙ ap (λ (m : Memory). all_bytes m ws) (c.space.ensures
    ∙ ap (λ (s : State). s.memory) c.machine-2.ensures) in
    let hit : HitBy ws q.machine p.machine c.hit_by-hit.result =
    subst (λ (s : State). HitBy ws s p.machine c.hit_by-hit.result) c.machine-3.ensures
    (c.hit_by-hit.ensures p.machine after) in
    subst (λ (w : Undone). Undoes ws p w q) (sym c.undone_by.ensures) (undone c.hit_by-hit.result q since back hit)
