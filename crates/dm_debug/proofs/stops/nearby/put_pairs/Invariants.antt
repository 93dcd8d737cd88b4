use Rattle.std.proofs.Common.{◌≡◌, [], ◌++◌, take}
use Rattle.std.specs.List.{flat_map}
use Rattle.dm_debug.specs.stops.inner.Nearby.{pairs_for}
use Rattle.dm_debug.proofs.stops.nearby.put_pairs.Given as goal

abbrev pub invariant-loop-event : goal.invariant-loop-event
invariant-loop-event l = l.pairs.items ≡ [] ++ flat_map (pairs_for l.segment) (take l.event-index l.events)
