use Rattle.std.proofs.Common.{◌≡◌, [], ◌++◌, take}
use Rattle.std.specs.List.{flat_map}
use Rattle.dm_target.specs.inner.Looking.{pairs_at}
use Rattle.dm_target.proofs.nearby.put_pairs.Given as goal

abbrev pub invariant-loop-point : goal.invariant-loop-point
invariant-loop-point l = l.pairs.items ≡ [] ++ flat_map (pairs_at l.segment) (take l.point-index l.points)
