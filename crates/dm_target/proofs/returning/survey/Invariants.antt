use Rattle.std.proofs.Common.{◌<◌, []}
use Rattle.dm_history.specs.Becomes.{BecomesBy}
use Rattle.dm_history.specs.Branches.{Reaches}
use Rattle.dm_target.specs.inner.Surveying.{Stands, IsSomeAfter}
use Rattle.dm_target.proofs.returning.survey.Given as goal

-- the last hit so far, and there is one once something was looked at
abbrev pub invariant-loop : goal.invariant-loop
invariant-loop l = record {
  before : l.branch.machine.steps < l.end;
  parts : Reaches l.initial.branch.machine l.end → BecomesBy l.initial.branch.machine [] l.branch.machine ×
      Stands l.points l.watches l.initial.branch.machine l.branch.machine l.last × IsSomeAfter l.counter l.last;
}
