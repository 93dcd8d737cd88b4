use Rattle.std.proofs.Common.{List, Option, ℕ, false}
use Rattle.dm_pool.specs.declared.extent.Extent.{Extent}
use Rattle.dm_space.specs.inner.Shifts.{AreShifts}
use Rattle.dm_space.proofs.space.first_shifts.Given as goal

abbrev pub invariant-loop-k : goal.invariant-loop-k
invariant-loop-k l = (places : List (Option Extent)) (windows : List (Option ℕ)) →
    AreShifts false places windows l.shifts

abbrev pub invariant-loop-k-2 : goal.invariant-loop-k-2
invariant-loop-k-2 l = (places : List (Option Extent)) (windows : List (Option ℕ)) →
    AreShifts false places windows l.shifts
