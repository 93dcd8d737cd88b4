use Rattle.std.proofs.Common.{Bool, Option, ap, sym, subst}
use Rattle.dm_services.specs.declared.state.stop.Stop.{Stop}
use Rattle.dm_findings.specs.Report.{Reported}
use Rattle.dm_checker.specs.Checks.{IsReport}
use Rattle.dm_checker.specs.Checking.{UnderWay, RunGoesOn}
use Rattle.dm_checker.proofs.Checking.{at_err, runs}
use Rattle.dm_checker.proofs.Underway.{part_none}
use Rattle.dm_checker.proofs.checks.check.Goals as goal

pub returns-in_err-run-clause-err : goal.returns-in_err-run-clause-err
returns-in_err-run-clause-err c = at_err c.from_residual.result (part_none c.args.machine.now c.new.new.machine c.args.n
    c.new.ensures.same)

pub returns-in_err-stop-clause-err : goal.returns-in_err-stop-clause-err
returns-in_err-stop-clause-err c = at_err c.from_residual-in_err-stop.result
    (c.in_err-stop.ensures.err c.args.machine.now c.args.n c.in_ok-run.ensures.begins)

pub returns-clause-run : goal.returns-clause-run
returns-clause-run c =
    let s = c.args.machine.now in
    let goes = subst (λ (o : Option Stop). RunGoesOn s c.args.n o c.advance.new.machine c.in_ok-run.run'
    c.advance.new.self) c.in-Some.is (c.in_ok-stop.ensures.ok s c.args.n c.in_ok-run.ensures.begins) in
    runs s c.advance.new.machine c.args.n c.in_ok-run.run'.free c.in-Some.stop c.advance.new.self.report goes

pub returns-clause-report : goal.returns-clause-report
returns-clause-report c =
    let s = c.args.machine.now in
    let t = c.advance.new.machine in
    let goes = subst (λ (o : Option Stop). RunGoesOn s c.args.n o t c.in_ok-run.run' c.advance.new.self) c.in-Some.is
    (c.in_ok-stop.ensures.ok s c.args.n c.in_ok-run.ensures.begins) in
    subst (λ (f : Bool). IsReport s c.args.n f c.in-Some.stop t c.run.inside.report) c.in_ok-run.ensures.free
    (subst (λ (r : Reported). IsReport s c.args.n c.in_ok-run.run'.free c.in-Some.stop t r)
    (sym (ap (λ (u : UnderWay). u.report) c.run.view_is)) goes)
