use Rattle.std.proofs.Common.{ℕ, ◌≤◌}
use Rattle.std.specs.List.{AllWithin}
use Rattle.dm_target.specs.inner.Looking.{IsGuardedAt, Keeps}
use Rattle.dm_target.proofs.nearby.mark_all.Given as goal

abbrev pub invariant-loop-point : goal.invariant-loop-point
invariant-loop-point l = record {
  keeps : (n : ℕ) → n ≤ l.level → Keeps n l.fn.marks l.marks;
  marked : AllWithin (IsGuardedAt l.level l.marks) l.watches 0 l.point-index;
}
