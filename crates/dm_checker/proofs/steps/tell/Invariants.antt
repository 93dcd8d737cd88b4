use Rattle.std.proofs.Common.{map, take}
use Rattle.dm_checker.specs.inner.Steps.{found_by, ReportsMore}
use Rattle.dm_checker.proofs.steps.tell.Given as goal

abbrev pub invariant-loop-finding : goal.invariant-loop-finding
invariant-loop-finding l = ReportsMore l.free l.initial.report l.report (map (found_by l.before l.step l.origins l.act)
    (take l.finding-index l.found))
