use Rattle.std.proofs.lemmas.Result.{on_ok_weaker}
use Rattle.dm_reports.specs.Reports.{lines_text, summary_text, report_text}
use Rattle.dm_reports.proofs.Puts.{behind}
use Rattle.dm_reports.proofs.reports.put_report.Goals as goal

pub returns : goal.returns
unfolding report_text
returns c = on_ok_weaker c.put_summary.result (λ e. behind c.args.out.now.items (lines_text c.args.report.now.listed)
    (summary_text c.args.report.now) _ _ (rw c.listed.ensures at c.in_ok-put_lines.ensures) e) c.put_summary.ensures
