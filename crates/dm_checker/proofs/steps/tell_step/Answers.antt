use Rattle.std.proofs.lemmas.Result.{on_ok_weaker}
use Rattle.dm_checker.proofs.Acting.{unlisted_stops}
use Rattle.dm_checker.proofs.Telling.{tells}
use Rattle.dm_checker.proofs.steps.tell_step.Goals as goal

pub unreachable-requires : goal.unreachable-requires
unreachable-requires c = unlisted_stops c.requires.0 c.args.machine.now (c.in_default.ensures c.requires.0 c.requires.1)
    c.requires.2

pub returns : goal.returns
returns c = on_ok_weaker c.tell.result (λ r s h. (let x =
    tells c.args.free s c.args.machine.now c.args.before.now _ c.args.origins.now c.in-Some.act c.args.found.now
    c.args.report.now c.tell.new.report h (c.in-Some.ensures s h) c.steps.ensures r in
    (x.more, x.found, x.reports))) c.tell.ensures
