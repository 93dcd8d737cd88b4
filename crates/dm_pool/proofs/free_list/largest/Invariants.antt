use Rattle.std.proofs.Common.{◌≡◌, ◌-◌}
use Rattle.std.specs.Prelude.{max}
use Rattle.dm_pool.specs.Gaps.{gaps, largest}
use Rattle.dm_pool.proofs.Fits.{Passing}
use Rattle.dm_pool.proofs.free_list.largest.Given as goal

abbrev pub invariant-loop-at : goal.invariant-loop-at
invariant-loop-at l = (p : Passing l.table.places l.table.units l.bytes l.at) ×
    (max l.most (largest p.rest) ≡ largest (gaps l.table.places l.table.units))

abbrev pub decreases-loop-at : goal.decreases-loop-at
decreases-loop-at l = l.table.units - l.at
