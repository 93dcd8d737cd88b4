use Rattle.std.proofs.Common.{◌∙◌, List, ap, sym}
use Rattle.dm_findings.specs.declared.report.Listed.{Listed}
use Rattle.dm_findings.proofs.Reports.{none-reported}
use Rattle.dm_findings.proofs.report.Report.new.Goals as goal

pub returns : goal.returns
returns c = ap (λ (l : List Listed). record { listed = l; errors = 0; notes = 0; omitted = 0 }) c.new.ensures.items
    ∙ sym none-reported
