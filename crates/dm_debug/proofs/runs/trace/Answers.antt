use Rattle.std.proofs.lemmas.Result.{on_ok_weaker}
use Rattle.dm_debug.proofs.Traced.{at_err, traced_none, traced_more, traced_cut, part_next, part_stopped}
use Rattle.dm_debug.proofs.runs.trace.Goals as goal

pub loop-init : goal.loop-init
loop-init c = record { traced = traced_none _ _; program = c.requires }

pub returns-in-Some-clause-ok : goal.returns-in-Some-clause-ok
returns-in-Some-clause-ok c = on_ok_weaker c.put_stop.result (λ e. traced_cut _ _ _ _ _ _ _ _ c.in-Some.stop
    c.loop.invariant.traced c.loop-test.true c.in-Some.ensures.answers e) c.put_stop.ensures

pub returns-in-Some-clause-err : goal.returns-in-Some-clause-err
returns-in-Some-clause-err c = at_err c.put_stop.result (part_stopped _ _ _ _ _ _ _ c.in-Some.stop
    c.loop.invariant.traced c.loop-test.true c.in-Some.ensures.answers)

pub returns-in_err-put_machine-clause-err : goal.returns-in_err-put_machine-clause-err
returns-in_err-put_machine-clause-err c =
    at_err c.from_residual.result (part_next _ _ _ _ _ _ _ c.loop.invariant.traced c.loop-test.true
    c.in_default.ensures.answers)

pub loop-preserved : goal.loop-preserved
loop-preserved c =
    let told = c.in_ok-put_machine.ensures in
    record {
      traced = traced_more _ _ _ _ _ _ told.0 _ c.loop.invariant.traced c.in_default.ensures.answers told.1
          told.2;
      program = c.step.ensures.loaded;
    }
