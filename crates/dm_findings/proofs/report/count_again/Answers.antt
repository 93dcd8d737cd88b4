use Rattle.std.proofs.Common.{ℕ, ◌<◌, length, arith}
use Rattle.dm_findings.specs.inner.Listing.{counted}
use Rattle.dm_findings.proofs.Counting.{changed_at}
use Rattle.dm_findings.proofs.report.count_again.Goals as goal

pub loop-line-preserved : goal.loop-line-preserved
loop-line-preserved c =
    let less : c.loop-line.line-index < length c.args.lines.now = omega arith in
    changed_at (counted c.args.found.now) c.args.lines.now c.loop-line.lines c.loop-line.line-index c.line-item.result
    c.count_at.new.line less c.loop-line.invariant c.count_at.ensures
