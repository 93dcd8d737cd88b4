use Rattle.std.proofs.Common.{◌≡◌, ℕ, ◌<◌, Some, None, get_or}
use Rattle.dm_pool.specs.declared.extent.Extent.{Extent}
use Rattle.dm_pool.proofs.table.first_empty.Given as goal

abbrev pub invariant-loop-i : goal.invariant-loop-i
invariant-loop-i l = (j : ℕ) → j < l.i → (b : Extent) × (get_or l.places j None ≡ Some b)
