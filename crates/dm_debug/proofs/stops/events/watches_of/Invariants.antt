use Rattle.std.proofs.Common.{◌≡◌, take, map}
use Rattle.dm_debug.specs.stops.inner.Watching.{watch_of}
use Rattle.dm_debug.proofs.stops.events.watches_of.Given as goal

abbrev pub invariant-loop-event : goal.invariant-loop-event
invariant-loop-event l = l.watches.items ≡ map (watch_of l.space.memory) (take l.event-index l.events)
