use Rattle.std.proofs.Common.{sym, ◌∙◌}
use Rattle.std.proofs.lemmas.Result.{on_ok_weaker}
use Rattle.dm_checker.proofs.Telling.{left_out_one, added_one}
use Rattle.dm_checker.proofs.steps.tell_one.Goals as goal

pub returns-then-is_left_out : goal.returns-then-is_left_out
returns-then-is_left_out c = left_out_one c.args.free c.args.report.now c.args.found (sym c.is_left_out.ensures
    ∙ c.if-is_left_out.true)

pub returns : goal.returns
returns c = on_ok_weaker c.add.result (λ e. added_one c.args.free c.args.report.now c.add.new.self c.args.found
    (sym c.is_left_out.ensures ∙ c.if-is_left_out.false) e) c.add.ensures.ok
