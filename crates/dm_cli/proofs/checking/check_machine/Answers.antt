use Rattle.std.proofs.Common.{◌∙◌, ap, refl}
use Rattle.dm_cli.specs.Checking.{told_status}
use Rattle.std.proofs.KnownBytes.{Keeps-refl}
use Rattle.dm_checker.proofs.Checking.{runs}
use Rattle.dm_cli.specs.inner.Checking.{run_checked, output_cut, no_report}
use Rattle.dm_cli.proofs.Following.{lost_at_once, lost_all, lost_free, report_free, whole_printed}
use Rattle.dm_cli.proofs.checking.check_machine.Goals as goal

pub returns-in_default-clause-does : goal.returns-in_default-clause-does
returns-in_default-clause-does g c = no_report (lost_at_once c.args.form c.args.machine.now c.args.steps c.args.free _)
    (Keeps-refl _) refl

pub returns-in_default-follow-clause-does : goal.returns-in_default-follow-clause-does
returns-in_default-follow-clause-does g c =
    no_report (lost_free c.args.form c.args.machine.now c.args.steps _ c.args.free _ _ c.in-Ok.ensures.free
    (c.in_default-follow.ensures.err c.args.machine.now c.args.steps c.in-Ok.ensures.begins)) (Keeps-refl _) refl

pub returns-in_default-put_end-clause-does : goal.returns-in_default-put_end-clause-does
returns-in_default-put_end-clause-does g c =
    let h = c.in-Ok-follow.ensures.ok c.args.machine.now c.args.steps c.in-Ok.ensures.begins in
    no_report (lost_free c.args.form c.args.machine.now c.args.steps _ c.args.free _ _ c.in-Ok.ensures.free
    (lost_all c.args.form _ _ _ _ _ _ _ _ _ h)) (Keeps-refl _) refl

pub returns-in-Ok-written-clause-does : goal.returns-in-Ok-written-clause-does
returns-in-Ok-written-clause-does g c =
    let s = c.args.machine.now in
    let h = c.in-Ok-follow.ensures.ok s c.args.steps c.in-Ok.ensures.begins in
    let report = report_free s _ c.args.steps _ c.args.free _ _ c.in-Ok.ensures.free h.report in
    let text = c.as_slice.ensures.value ∙ (rw (
      c.new-text.ensures.items,
      c.report-report.ensures,
      c.processes-processes.ensures,
    ) at c.in-Ok-put_end.ensures) in
    run_checked c.follow.new.machine _ _ _ _ _ (runs s _ c.args.steps c.args.free _ _ report) report h.processes
    (rw c.output.ensures at c.in-Ok-written.ensures.ok) c.in-Ok-written.ensures.no_failure
    (whole_printed c.args.form _ _ _ _ c.follow.new.machine _ _ _ text (c.print_now-failed.ensures _ _ h.printed))
    (c.told_status.ensures ∙ ap (told_status c.print_now-failed.result)
    (rw c.report-report.ensures at c.checked_status.ensures))

pub returns-clause-does : goal.returns-clause-does
returns-clause-does g c =
    let s = c.args.machine.now in
    let h = c.in-Ok-follow.ensures.ok s c.args.steps c.in-Ok.ensures.begins in
    let report = report_free s _ c.args.steps _ c.args.free _ _ c.in-Ok.ensures.free h.report in
    let text = c.as_slice.ensures.value ∙ (rw (
      c.new-text.ensures.items,
      c.report-report.ensures,
      c.processes-processes.ensures,
    ) at c.in-Ok-put_end.ensures) in
    output_cut c.follow.new.machine _ _ _ _ _ _ (runs s _ c.args.steps c.args.free _ _ report) report h.processes
    (rw c.output.ensures at c.in-Err.ensures.part) c.in-Err.ensures.err
    (whole_printed c.args.form _ _ _ _ c.follow.new.machine _ _ _ text (c.print_now-failed.ensures _ _ h.printed))
    c.print_fault.ensures (c.told_status-in-Err.ensures ∙ ap (told_status c.print_now-failed.result)
    (rw c.report-report.ensures at c.unwritten_status.ensures))
