use Rattle.std.proofs.Common.{ℕ, ◌≤◌}
use Rattle.std.specs.List.{AllWithin}
use Rattle.dm_checker.specs.declared.arena_copy.HeaderCopy.{HeaderCopy}
use Rattle.dm_checker.specs.inner.Marking.{Keeps, HasFree}
use Rattle.dm_checker.proofs.marking.mark_free.Given as goal

abbrev pub invariant-loop-copy : goal.invariant-loop-copy
invariant-loop-copy l = record {
  keeps : (n : ℕ) → n ≤ 2 → Keeps n l.fn.marks l.marks;
  marked : AllWithin (λ (w : HeaderCopy). HasFree l.marks w.header) l.headers 0 l.copy-index;
}
