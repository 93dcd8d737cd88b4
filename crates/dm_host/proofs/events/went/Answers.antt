use Rattle.std.proofs.lemmas.Result.{IfOk-weaker, on_err_weaker}
use Rattle.dm_host.proofs.Ran.{ran, stayed}
use Rattle.dm_host.proofs.events.went.Goals as goal

pub returns-clause-ok : goal.returns-clause-ok
returns-clause-ok c =
    IfOk-weaker c.run_to-ending.result _ _
    (λ ending run. ran c.args.session c.from_parts.result _ _ _ c.args.n c.args.events.now ending
    c.into_parts-machine.ensures.parts c.from_parts.ensures run) c.run_to-ending.ensures.ok

pub returns-clause-err : goal.returns-clause-err
returns-clause-err c =
    on_err_weaker c.run_to-ending.result (λ same. stayed c.args.session c.from_parts.result _ _ _
    c.into_parts-machine.ensures.parts c.from_parts.ensures same) c.run_to-ending.ensures.err
