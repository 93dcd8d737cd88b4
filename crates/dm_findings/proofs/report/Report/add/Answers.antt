use Rattle.std.proofs.Common.{◌+◌, ◌∙◌, ap}
use Rattle.std.specs.Prelude.{min}
use Rattle.dm_findings.specs.Report.{Reported}
use Rattle.dm_findings.proofs.Reports.{error-added, note-added, most_counted}
use Rattle.dm_findings.proofs.report.Report.add.Goals as goal

pub returns-then-is_error-clause-ok : goal.returns-then-is_error-clause-ok
returns-then-is_error-clause-ok c =
    error-added c.args.self.now c.enter.new.self _ c.args.found (rw (← c.is_error.ensures) c.if-is_error.true)
    c.in_ok-enter.ensures.ok (ap (λ (r : Reported). r.listed) c.self.view_is)
    (ap (λ (r : Reported). r.omitted) c.self.view_is)
    (c.saturating_add-self-inside.ensures ∙ ap (λ (r : Reported). min (r.errors + 1) most_counted) c.self.view_is)
    (ap (λ (r : Reported). r.notes) c.self.view_is)

pub returns-else-is_error-clause-ok : goal.returns-else-is_error-clause-ok
returns-else-is_error-clause-ok c =
    note-added c.args.self.now c.enter.new.self _ c.args.found (rw (← c.is_error.ensures) c.if-is_error.false)
    c.in_ok-enter.ensures.ok (ap (λ (r : Reported). r.listed) c.self.view_is)
    (ap (λ (r : Reported). r.omitted) c.self.view_is)
    (ap (λ (r : Reported). r.errors) c.self.view_is) (c.saturating_add-self-inside-else-is_error.ensures
    ∙ ap (λ (r : Reported). min (r.notes + 1) most_counted) c.self.view_is)
