use Rattle.std.specs.Prelude.{◌≡◌, ◌++◌, take}
use Rattle.std.specs.List.{flat_map}
use Rattle.dm_reports.specs.Reports.{again_line}
use Rattle.dm_reports.proofs.reports.put_all_again.Given as goal

-- the lines about the further occurrences of the findings so far
abbrev pub invariant-loop-line : goal.invariant-loop-line
invariant-loop-line l = l.out.items ≡ l.initial.out.items ++ flat_map again_line (take l.line-index l.lines)
