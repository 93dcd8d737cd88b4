use Rattle.std.specs.List.{AllWithin}
use Rattle.dm_checker.specs.inner.Marking.{Keeps, HasHeader}
use Rattle.dm_checker.proofs.marking.mark_headers.Given as goal

abbrev pub invariant-loop-copy : goal.invariant-loop-copy
invariant-loop-copy l = record {
  keeps : Keeps 1 l.fn.marks l.marks;
  marked : AllWithin (HasHeader l.marks) l.headers 0 l.copy-index;
}
