use Rattle.std.proofs.Common.{arith}
use Rattle.dm_debug.proofs.stops.Guarding.{event_marked}
use Rattle.dm_debug.proofs.stops.marking.mark_event.Goals as goal

pub returns-clause-marked : goal.returns-clause-marked
returns-clause-marked c = event_marked c.args.event.now _ _ c.args.level _ _ c.mark.ensures c.requires (omega arith)
    (λ k under small. omega (arith, under, small))
