use Rattle.std.proofs.Common.{◌≡◌, subst}
use Rattle.dm_services.specs.declared.state.stop.Stop.TheVariants.{Steps as AllSteps}
use Rattle.dm_services.specs.state.State.{State}
use Rattle.dm_machine.specs.Run.{IsRun}
use Rattle.dm_debug.proofs.stops.Passing.{near_none, one_near}
use Rattle.dm_debug.proofs.stops.Still.{still_here}
use Rattle.dm_debug.proofs.stops.going.advance.Goals as goal

pub returns-in-Steps-clause-near : goal.returns-in-Steps-clause-near
returns-in-Steps-clause-near c = λ start still.
    let same : c.run_up_to_event-made.new.machine ≡ c.args.machine.now
    = near_none start c.args.events.now c.args.machine.now c.run_up_to_event-made.new.machine
    c.run_up_to_event-made.result (c.run_up_to_event-made.ensures.near start still) c.if-made-ne0.false in
    one_near start c.args.events.now c.args.machine.now c.run.new.self
    (subst (λ (x : State). IsRun x 1 AllSteps c.run.new.self) same c.in-Steps.ensures.run)

pub returns-in_default : goal.returns-in_default
returns-in_default c =
    let start = c.args.machine.now.memory in
    let same : c.run_up_to_event-made.new.machine ≡ c.args.machine.now
    = near_none start c.args.events.now c.args.machine.now c.run_up_to_event-made.new.machine
    c.run_up_to_event-made.result
    (c.run_up_to_event-made.ensures.near start (still_here start c.args.events.now)) c.if-made-ne0.false in
    record {
      near = tt;
      some = tt;
      most = tt;
      stops = (
        c.in_default.not-Steps,
        subst (λ (x : State). IsRun x 1 c.run.result c.run.new.self) same c.run.ensures.run,
      );
      loaded = c.run.ensures.loaded;
    }
