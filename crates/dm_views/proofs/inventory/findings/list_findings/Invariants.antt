use Rattle.std.proofs.Common.{◌≡◌, ◌++◌, take, map}
use Rattle.dm_views.specs.inventory.Findings.{record_of}
use Rattle.dm_views.proofs.inventory.findings.list_findings.Given as goal

-- the records of the first of them stand behind what stood there
abbrev pub invariant-loop-line : goal.invariant-loop-line
invariant-loop-line l = l.out.items ≡ l.initial.out.items ++ map record_of (take l.line-index l.listed)
