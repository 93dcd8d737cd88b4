use Rattle.std.specs.Prelude.{◌≡◌, ◌++◌, map, take, drop}
use Rattle.dm_findings.specs.inner.Listing.{counted}
use Rattle.dm_findings.proofs.report.count_again.Given as goal

-- the lines before the index are counted, the others as they were
abbrev pub invariant-loop-line : goal.invariant-loop-line
invariant-loop-line l = l.lines ≡ map (counted l.found) (take l.line-index l.initial.lines)
    ++ drop l.line-index l.initial.lines
