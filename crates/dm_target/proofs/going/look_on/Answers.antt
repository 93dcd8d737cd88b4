use Rattle.std.proofs.Common.{sym, ap, ◌∙◌}
use Rattle.dm_target.specs.Going.{has_arrived}
use Rattle.dm_target.specs.inner.Looking.{goes_on, arrives, ends}
use Rattle.dm_target.proofs.Looking.{looked_run, looked_hits}
use Rattle.dm_target.proofs.going.look_on.Goals as goal

pub returns-in-Some-clause-ends : goal.returns-in-Some-clause-ends
returns-in-Some-clause-ends c = ends c.in-Some.pause c.look.new.history.machine c.in-Some.ensures.looks

pub returns-then-has_arrived-clause-ends : goal.returns-then-has_arrived-clause-ends
returns-then-has_arrived-clause-ends c =
    arrives c.look.new.history.machine (looked_run c.args.watches.now c.args.history.now.machine
    c.look.new.history.machine c.look.result c.look.ensures.looks c.in_default.is)
    (looked_hits c.args.watches.now c.args.history.now.machine c.look.new.history.machine c.look.result
    c.look.ensures.looks c.in_default.is)
    (ap (λ s. has_arrived c.args.points.now c.args.span s) (sym c.machine.ensures) ∙ sym c.has_arrived.ensures
    ∙ c.if-has_arrived.true)

pub returns-clause-ends : goal.returns-clause-ends
returns-clause-ends c =
    goes_on c.look.new.history.machine (looked_run c.args.watches.now c.args.history.now.machine
    c.look.new.history.machine c.look.result c.look.ensures.looks c.in_default.is)
    (looked_hits c.args.watches.now c.args.history.now.machine c.look.new.history.machine c.look.result
    c.look.ensures.looks c.in_default.is)
    (ap (λ s. has_arrived c.args.points.now c.args.span s) (sym c.machine.ensures) ∙ sym c.has_arrived.ensures
    ∙ c.if-has_arrived.false)
