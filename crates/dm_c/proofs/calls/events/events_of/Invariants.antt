use Rattle.std.proofs.Common.{◌≡◌, take, map}
use Rattle.dm_c.specs.calls.Events.{event_of}
use Rattle.dm_c.proofs.calls.events.events_of.Given as goal

-- the events that the first of them are
abbrev pub invariant-loop-event : goal.invariant-loop-event
invariant-loop-event l = l.wanted.items ≡ map event_of (take l.event-index l.events)
