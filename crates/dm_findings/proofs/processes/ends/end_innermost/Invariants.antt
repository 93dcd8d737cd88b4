use Rattle.std.proofs.Common.{◌≡◌, ◌≤◌, false, length, drop}
use Rattle.std.specs.List.{list_any}
use Rattle.dm_findings.specs.processes.Processes.{runs}
use Rattle.dm_findings.proofs.processes.ends.end_innermost.Given as goal

abbrev pub invariant-loop-left : goal.invariant-loop-left
invariant-loop-left l = record {
  same : l.processes ≡ l.fn.processes;
  within : l.left ≤ length l.processes;
  ended : list_any runs (drop l.left l.processes) ≡ false;
}

abbrev pub decreases-loop-left : goal.decreases-loop-left
decreases-loop-left l = l.left
