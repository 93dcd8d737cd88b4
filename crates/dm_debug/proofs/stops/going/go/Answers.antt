use Rattle.std.proofs.Common.{◌≡◌, ℕ, ◌-◌, refl, ◌∙◌, subst, arith}
use Rattle.dm_debug.specs.stops.Runs.{RunsPast}
use Rattle.dm_debug.specs.stops.Runs as runs
use Rattle.dm_debug.proofs.stops.Passing.{more_passes, near_comes, stops_at}
use Rattle.dm_debug.proofs.stops.Still.{still_unless}
use Rattle.dm_debug.proofs.stops.Watching.{first_seen}
use Rattle.dm_debug.proofs.stops.going.go.Goals as goal

pub loop-init : goal.loop-init
loop-init c = record {
  counted = omega arith;
  passes = λ start are still. (let F : ℕ → Type 0 = λ j. RunsPast start c.args.events.now c.args.machine.now j
      c.args.machine.now in let none : 0 ≡ c.args.most - c.args.most = omega arith in subst F none runs.here);
  still = λ start are still. still;
  loaded = c.requires.loaded;
}

pub returns-in-Err-clause-goes : goal.returns-in-Err-clause-goes
returns-in-Err-clause-goes c = λ start are still.
    stops_at start c.args.events.now c.args.machine.now c.loop.machine c.advance.new.machine c.args.most c.loop.left
    c.in-Err.stop (omega (arith, c.loop.invariant.counted)) (omega (arith, c.if-left-eq0.false))
    c.in-Err.ensures.stops.0 (c.loop.invariant.passes start are still) c.in-Err.ensures.stops.1

pub returns-in-Some-clause-goes : goal.returns-in-Some-clause-goes
returns-in-Some-clause-goes c = λ start are still.
    near_comes start c.args.events.now c.args.machine.now c.loop.machine c.advance.new.machine c.args.most c.loop.left
    c.in-Ok.made c.in-Some.index (omega (arith, c.loop.invariant.counted)) c.in-Ok.ensures.most
    (omega (arith, c.in-Ok.ensures.some)) (c.loop.invariant.passes start are still)
    (c.in-Ok.ensures.near start (c.loop.invariant.still start are still))
    (first_seen start c.args.events.now c.args.watches.now c.advance.new.machine c.first_come.result are
    c.first_come.ensures ∙ c.in-Some.is)

pub loop-preserved : goal.loop-preserved
loop-preserved c = record {
  counted = omega (arith, c.loop.invariant.counted, c.if-left-eq0.false, c.in-Ok.ensures.some, c.in-Ok.ensures.most);
  passes = λ start are still.
      more_passes start c.args.events.now c.args.machine.now c.loop.machine c.advance.new.machine c.args.most
      c.loop.left c.in-Ok.made (c.loop.left - c.in-Ok.made) (omega (arith, c.loop.invariant.counted))
      c.in-Ok.ensures.most refl (c.loop.invariant.passes start are still) (c.in-Ok.ensures.near start
      (c.loop.invariant.still start are still))
      (first_seen start c.args.events.now c.args.watches.now c.advance.new.machine c.first_come.result are
      c.first_come.ensures ∙ c.in_default.is);
  still = λ start are still.
      still_unless start c.advance.new.machine 0 c.args.events.now
      (first_seen start c.args.events.now c.args.watches.now c.advance.new.machine c.first_come.result are
      c.first_come.ensures ∙ c.in_default.is);
  loaded = c.advance.ensures.loaded;
}
