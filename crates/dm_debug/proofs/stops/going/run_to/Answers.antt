use Rattle.std.proofs.Common.{map, refl, inl, inr, ◌∙◌, ap}
use Rattle.dm_space.specs.Memory.{Memory}
use Rattle.dm_debug.specs.stops.Runs.{plain}
use Rattle.dm_debug.specs.stops.inner.Watching.{watch_of}
use Rattle.dm_debug.proofs.stops.Still.{still_here}
use Rattle.dm_debug.proofs.stops.Watching.{goes_runs, nothing_in}
use Rattle.dm_debug.proofs.stops.going.run_to.Goals as goal
use Rattle.dm_debug.proofs.stops.going.run_to.Goals.{then-most-eq0-via-then-most-eq0, then-most-eq0-via-else-most-eq0+then-is_empty}

pub returns-then-most-eq0-clause-ok : goal.returns-then-most-eq0-clause-ok
returns-then-most-eq0-clause-ok c = elim c.then-most-eq0.branch [
  | then-most-eq0-via-then-most-eq0 w ↦ plain c.run.result (inl w.if-most-eq0.true) refl c.run.ensures.run
  | then-most-eq0-via-else-most-eq0+then-is_empty w ↦
      plain c.run.result (inr (nothing_in c.args.events.now w.is_empty.result w.is_empty.ensures w.if-is_empty.true))
      refl c.run.ensures.run
]

pub returns-clause-ok : goal.returns-clause-ok
returns-clause-ok c =
    goes_runs c.args.machine.now c.args.most c.args.events.now c.go.result c.go.new.machine
    (c.go.ensures.goes c.args.machine.now.memory
    (c.as_slice.ensures.value ∙ c.in_ok-watches.ensures
    ∙ ap (λ (x : Memory). map (watch_of x) c.args.events.now) c.space.ensures)
    (still_here c.args.machine.now.memory c.args.events.now))
