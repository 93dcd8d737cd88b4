use Rattle.std.proofs.Common.{◌∙◌}
use Rattle.std.proofs.lemmas.Result.{on_ok_weaker}
use Rattle.dm_checker.proofs.Stepping.{ends}
use Rattle.dm_checker.proofs.steps.check_end.Goals as goal

pub returns-clause-finds : goal.returns-clause-finds
returns-clause-finds c = on_ok_weaker c.tell.result (λ e s before arena touched.
    let t = c.args.machine.now in
    let call = c.args.call in
    let fs = c.look.new.out.items in
    let all = rw (c.call_stays_resident.ensures) at c.in_ok-put_leaks.ensures in
    ends c.args.free s t c.args.before.now call c.steps.result c.args.kept.now c.args.origins.now c.look.new.origins
    c.args.found.now.items fs c.deref.result.now c.args.report.now c.tell.new.report c.requires.call before
    (c.in_ok-look.ensures.knows s before arena) touched (c.in_ok-look.ensures.looks s before arena)
    (c.deref.ensures.value ∙ all) c.steps.ensures e
    ) c.tell.ensures

pub returns-clause-knows : goal.returns-clause-knows
returns-clause-knows c = on_ok_weaker c.tell.result (λ e. c.in_ok-look.ensures.knows) c.tell.ensures
