use Rattle.std.proofs.Common.{◌≡◌, true, false, Some, ap, sym, subst, ◌∙◌, arith}
use Rattle.dm_services.specs.state.State.{State}
use Rattle.dm_target.specs.Going.{is_among, code_address}
use Rattle.dm_target.specs.inner.Surveying.{IsStand}
use Rattle.dm_target.specs.inner.Surveying as surveying
use Rattle.dm_target.proofs.returning.stand.Goals as goal

pub returns-then-end-steps : goal.returns-then-end-steps
returns-then-end-steps c =
    let at : c.steps-steps.result ≡ c.args.branch.now.machine.steps = c.steps-steps.ensures
    ∙ ap (λ (s : State). s.steps) c.machine-machine.ensures in
    surveying.over (omega (arith, at, c.if-end-steps.true))

pub returns-then-is_among : goal.returns-then-is_among
returns-then-is_among c =
    let m = c.args.branch.now.machine in
    let ps = c.args.points.now in
    let at : c.steps-steps.result ≡ m.steps = c.steps-steps.ensures
    ∙ ap (λ (s : State). s.steps) c.machine-machine.ensures in
    let there : is_among ps (code_address m) ≡ true = ap (λ (s : State). is_among ps (code_address s))
    (sym c.machine-machine.ensures) ∙ ap (is_among ps) (sym c.code_address.ensures) ∙ sym c.is_among.ensures
    ∙ c.if-is_among.true in
    subst (λ k. IsStand ps m c.args.end c.args.last (Some k) false) (sym at) (surveying.here (omega (
      arith,
      at,
      c.if-end-steps.false,
    )) there)

pub returns : goal.returns
returns c =
    let m = c.args.branch.now.machine in
    let ps = c.args.points.now in
    let at : c.steps-steps.result ≡ m.steps = c.steps-steps.ensures
    ∙ ap (λ (s : State). s.steps) c.machine-machine.ensures in
    let off : is_among ps (code_address m) ≡ false = ap (λ (s : State). is_among ps (code_address s))
    (sym c.machine-machine.ensures) ∙ ap (is_among ps) (sym c.code_address.ensures) ∙ sym c.is_among.ensures
    ∙ c.if-is_among.false in
    surveying.before (omega (arith, at, c.if-end-steps.false)) off
