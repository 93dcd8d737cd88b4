use Rattle.std.proofs.Common.{◌≡◌, drop}
use Rattle.dm_debug.specs.stops.Events.{comes, first_from}
use Rattle.dm_debug.specs.stops.inner.Watching.{Watched}
use Rattle.dm_debug.proofs.stops.events.first_come.Given as goal

abbrev pub invariant-loop-k : goal.invariant-loop-k
invariant-loop-k l = first_from (λ (w : Watched). comes l.machine w.event w.before) l.k (drop l.k l.watches)
    ≡ first_from (λ (w : Watched). comes l.machine w.event w.before) 0 l.watches
