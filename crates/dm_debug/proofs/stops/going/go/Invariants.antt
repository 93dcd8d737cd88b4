use Rattle.std.proofs.Common.{◌≡◌, ◌+◌, ◌-◌, ◌≤◌, map}
use Rattle.dm_space.specs.Memory.{Memory}
use Rattle.dm_services.specs.state.State.{HasProgram}
use Rattle.dm_debug.specs.stops.Runs.{RunsPast}
use Rattle.dm_debug.specs.stops.inner.Marking.{AreStill}
use Rattle.dm_debug.specs.stops.inner.Watching.{watch_of}
use Rattle.dm_debug.proofs.stops.going.go.Given as goal

abbrev pub invariant-loop : goal.invariant-loop
invariant-loop l = record {
  counted : l.left + l.counter ≤ l.most;
  passes : (start : Memory) → l.watches ≡ map (watch_of start) l.events →
      AreStill start l.initial.machine.memory l.events → RunsPast start l.events l.initial.machine
      (l.most - l.left) l.machine;
  still : (start : Memory) → l.watches ≡ map (watch_of start) l.events →
      AreStill start l.initial.machine.memory l.events → AreStill start l.machine.memory l.events;
  loaded : HasProgram l.machine;
}
