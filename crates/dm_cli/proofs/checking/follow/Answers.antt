use Rattle.std.proofs.Common.{◌∙◌, ℕ, List, Option, None, length, refl, sym, ap, subst, arith}
use Rattle.dm_services.specs.declared.state.stop.Stop.{Stop}
use Rattle.dm_services.specs.state.State.{State}
use Rattle.dm_findings.specs.declared.report.Listed.{Listed}
use Rattle.dm_checker.specs.Checking.{RunGoesOn, HasProcesses, IsUnderWay}
use Rattle.dm_checker.proofs.Checking.{at_err}
use Rattle.dm_cli.proofs.Following.{none_listed, first_printed, lines_few, grown_by, lost_with, lost_kept, report_free}
use Rattle.dm_cli.proofs.checking.follow.Goals as goal

pub loop-stop-init : goal.loop-stop-init
loop-stop-init g c =
    let empty = none_listed c.args.run.now.report c.requires.empty in
    record {
      way = λ s n h. h;
      free = refl;
      count = ap (λ (l : List Listed). length l) (sym empty);
      printed = first_printed c.args.form _ _ empty;
      program = c.requires.program;
    }

pub go_on-requires-clause-way : goal.go_on-requires-clause-way
go_on-requires-clause-way g c = (c.requires.way.0, c.requires.way.1, c.loop-stop.invariant.way _ _ c.requires.way.2)

pub print_new-requires : goal.print_new-requires
print_new-requires g c =
    let few = lines_few _ _ c.in_ok-stop.ensures.lines.more c.in_ok-stop.ensures.lines.is in
    let count = c.loop-stop.invariant.count in
    rw (c.report.ensures) (omega (arith, few, count))

pub returns-in_err-stop-clause-err : goal.returns-in_err-stop-clause-err
returns-in_err-stop-clause-err g c = at_err c.from_residual.result (λ s n way.
    lost_with c.args.form s c.loop-stop.machine n c.loop-stop.run c.args.run.now.free c.loop-stop.failed _ _
    c.loop-stop.invariant.free (c.loop-stop.invariant.way s n way) c.loop-stop.invariant.printed)

pub returns-in_err-failed-clause-err : goal.returns-in_err-failed-clause-err
returns-in_err-failed-clause-err g c = at_err c.from_residual-in_err-failed.result (λ s n way.
    lost_kept c.args.form (λ e. record { bytes = g.E.Out.taken e; failures = g.E.Out.failures e }) c.loop-stop.error
    c.print_new.new.error s n c.args.run.now.free _ c.in_err-failed.ensures.err
    (lost_with c.args.form s c.loop-stop.machine n c.loop-stop.run c.args.run.now.free c.loop-stop.failed _ _
    c.loop-stop.invariant.free (c.loop-stop.invariant.way s n way) c.loop-stop.invariant.printed))

pub returns-in-Some-clause-ok : goal.returns-in-Some-clause-ok
returns-in-Some-clause-ok g c s n way =
    let t = c.go_on.new.machine in
    let run = c.go_on.new.self in
    let goes = subst (λ (o : Option Stop). RunGoesOn s n o t c.loop-stop.run run) c.in-Some.is
    (c.in_ok-stop.ensures.ok s n (c.loop-stop.invariant.way s n way)) in
    record {
      processes = subst (λ (o : Option Stop). HasProcesses s n o t run) c.in-Some.is
          (c.in_ok-stop.ensures.processes s n (c.loop-stop.invariant.way s n way));
      report = report_free s t n c.loop-stop.run.free c.args.run.now.free c.in-Some.stop run.report
          c.loop-stop.invariant.free goes;
      printed = grown_by c.args.form c.loop-stop.run.report run.report c.report.result.now c.report.ensures
          c.in_ok-stop.ensures.lines c.loop-stop.count c.loop-stop.invariant.count c.in_ok-failed.failed _ _
          (c.in_ok-failed.ensures.ok _ _ c.loop-stop.invariant.printed);
    }

pub loop-stop-preserved : goal.loop-stop-preserved
loop-stop-preserved g c =
    let t = c.go_on.new.machine in
    let run = c.go_on.new.self in
    let goes : (s : State) (n : ℕ) → IsUnderWay s n c.args.machine.now c.args.run.now →
    RunGoesOn s n None t c.loop-stop.run run
    = λ s n way. subst (λ (o : Option Stop). RunGoesOn s n o t c.loop-stop.run run) c.in_default.is
    (c.in_ok-stop.ensures.ok s n (c.loop-stop.invariant.way s n way)) in
    record {
      way = λ s n way. (goes s n way).0;
      free = (goes c.requires.way.0 c.requires.way.1 c.requires.way.2).2 ∙ c.loop-stop.invariant.free;
      count = cc;
      printed = grown_by c.args.form c.loop-stop.run.report run.report c.report.result.now c.report.ensures
          c.in_ok-stop.ensures.lines c.loop-stop.count c.loop-stop.invariant.count c.in_ok-failed.failed _ _
          (c.in_ok-failed.ensures.ok _ _ c.loop-stop.invariant.printed);
      program = c.go_on.ensures.loaded;
    }

pub loop-stop-smaller : goal.loop-stop-smaller
loop-stop-smaller g c =
    let s = c.requires.way.0 in
    let n = c.requires.way.1 in
    (subst (λ (o : Option Stop). RunGoesOn s n o c.go_on.new.machine c.loop-stop.run c.go_on.new.self) c.in_default.is
    (c.in_ok-stop.ensures.ok s n (c.loop-stop.invariant.way s n c.requires.way.2))).1
