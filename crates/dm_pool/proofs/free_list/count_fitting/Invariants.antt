use Rattle.std.proofs.Common.{◌≡◌, ◌+◌, ◌-◌, ◌≤◌}
use Rattle.dm_pool.specs.Gaps.{gaps, count_fitting}
use Rattle.dm_pool.proofs.Fits.{Passing}
use Rattle.dm_pool.proofs.free_list.count_fitting.Given as goal

abbrev pub invariant-loop-at : goal.invariant-loop-at
invariant-loop-at l = (p : Passing l.table.places l.table.units l.bytes l.at) ×
    (l.count + count_fitting l.units p.rest ≡ count_fitting l.units (gaps l.table.places l.table.units)) ×
    (l.count + count_fitting l.units p.rest ≤ l.table.units)

abbrev pub decreases-loop-at : goal.decreases-loop-at
decreases-loop-at l = l.table.units - l.at
