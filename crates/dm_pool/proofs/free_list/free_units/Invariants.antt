use Rattle.std.proofs.Common.{◌≡◌, ◌+◌, ◌-◌, ◌≤◌}
use Rattle.dm_pool.specs.Gaps.{gaps, free_units}
use Rattle.dm_pool.proofs.Fits.{Passing}
use Rattle.dm_pool.proofs.free_list.free_units.Given as goal

abbrev pub invariant-loop-at : goal.invariant-loop-at
invariant-loop-at l = (p : Passing l.table.places l.table.units l.bytes l.at) ×
    (l.sum + free_units p.rest ≡ free_units (gaps l.table.places l.table.units)) ×
    (l.sum + free_units p.rest ≤ l.table.units)

abbrev pub decreases-loop-at : goal.decreases-loop-at
decreases-loop-at l = l.table.units - l.at
