use Rattle.std.proofs.Common.{ℕ, ◌<◌}
use Rattle.dm_pool.specs.declared.extent.Extent.{Extent}
use Rattle.dm_pool.specs.inner.Order.{IsNth}
use Rattle.dm_pool.proofs.table.rank.Given as goal

abbrev pub invariant-loop-i : goal.invariant-loop-i
invariant-loop-i l = (p : ℕ) (b : Extent) → p < l.i → IsNth l.places l.order p b → b.base < l.base
