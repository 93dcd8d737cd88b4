use Rattle.std.proofs.Common.{◌≡◌, ℕ, ◌<◌, Some, None, false, set, get_or}
use Rattle.dm_pool.specs.Gaps.{overlaps}
use Rattle.dm_pool.specs.declared.extent.Extent.{Extent}
use Rattle.dm_pool.proofs.table.is_clear_but.Given as goal

abbrev pub invariant-loop-i : goal.invariant-loop-i
invariant-loop-i l = (j : ℕ) (b : Extent) → j < l.i → get_or (set l.places l.slot None) j None ≡ Some b →
    overlaps b l.from l.units ≡ false
