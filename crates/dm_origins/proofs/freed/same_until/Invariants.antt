use Rattle.std.proofs.Common.{◌≤◌}
use Rattle.std.specs.List.{AllWithin}
use Rattle.dm_origins.specs.inner.Freed.{SameFrom}
use Rattle.dm_origins.proofs.freed.same_until.Given as goal

abbrev pub invariant-loop-header : goal.invariant-loop-header
invariant-loop-header l = record {
  from : l.at ≤ l.end;
  to : l.end ≤ l.last;
  same : AllWithin (SameFrom l.at l.end) l.headers 0 l.header-index;
}
