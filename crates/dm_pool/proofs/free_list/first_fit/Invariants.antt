use Rattle.std.proofs.Common.{◌≡◌, ◌-◌}
use Rattle.dm_pool.specs.Gaps.{first_fit, lowest}
use Rattle.dm_pool.proofs.Fits.{Passing}
use Rattle.dm_pool.proofs.free_list.first_fit.Given as goal

abbrev pub invariant-loop-at : goal.invariant-loop-at
invariant-loop-at l = (p : Passing l.table.places l.table.units l.bytes l.at) ×
    (first_fit p.rest l.wanted ≡ lowest l.table.places l.table.units l.wanted)

abbrev pub decreases-loop-at : goal.decreases-loop-at
decreases-loop-at l = l.table.units - l.at
