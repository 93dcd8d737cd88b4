use Rattle.std.proofs.Common.{ℕ, ◌≤◌}
use Rattle.std.specs.List.{AllWithin}
use Rattle.dm_debug.specs.stops.inner.Marking.{IsGuardedAt, Keeps}
use Rattle.dm_debug.proofs.stops.marking.mark_all.Given as goal

abbrev pub invariant-loop-event : goal.invariant-loop-event
invariant-loop-event l = record {
  keeps : (n : ℕ) → n ≤ l.level → Keeps n l.fn.marks l.marks;
  marked : AllWithin (IsGuardedAt l.level l.marks) l.events 0 l.event-index;
}
