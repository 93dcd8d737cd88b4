use Rattle.std.proofs.lemmas.Result.{on_ok_weaker}
use Rattle.dm_debug.proofs.Traced.{at_err, goes_told}
use Rattle.dm_debug.proofs.runs.go.Goals as goal

pub returns-in_err-put_stop-clause-err : goal.returns-in_err-put_stop-clause-err
returns-in_err-put_stop-clause-err c = at_err c.from_residual.result (
  c.run_until-stop.result,
  c.run_until-stop.ensures.run,
)

pub returns-clause-ok : goal.returns-clause-ok
returns-clause-ok c = on_ok_weaker c.put_machine.result (λ x. goes_told _ _ _ _ _ _ _ c.run_until-stop.result
    c.run_until-stop.ensures.run c.in_ok-put_stop.ensures x) c.put_machine.ensures

pub returns-clause-err : goal.returns-clause-err
returns-clause-err c = at_err c.put_machine.result (c.run_until-stop.result, c.run_until-stop.ensures.run)
