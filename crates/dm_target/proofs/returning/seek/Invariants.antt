use Rattle.std.proofs.Common.{◌-◌, ◌≤◌}
use Rattle.dm_target.specs.Returning.{AreClear}
use Rattle.dm_target.specs.inner.Surveying.{IsKnown}
use Rattle.dm_target.proofs.returning.seek.Given as goal

-- from `end` on there is no hit; the last one before `low` is known
abbrev pub invariant-loop-low : goal.invariant-loop-low
invariant-loop-low l = record {
  since : l.history.beginning.steps ≤ l.low;
  within : l.end ≤ l.history.machine.steps;
  clear : AreClear l.points l.watches l.history l.end l.history.machine.steps;
  known : IsKnown l.points l.watches l.history l.low l.last;
}

abbrev pub decreases-loop-low : goal.decreases-loop-low
decreases-loop-low l = l.end - l.low
