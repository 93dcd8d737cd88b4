use Rattle.std.proofs.Common.{ℕ, ◌-◌, ◌∙◌, ap}
use Rattle.std.proofs.lemmas.Result.{IfOk-weaker}
use Rattle.dm_gdb.specs.Checking.{most_checked}
use Rattle.dm_gdb.specs.inner.Checking.{LeadsAhead}
use Rattle.dm_gdb.proofs.Ahead.{told_on, told_stopped}
use Rattle.dm_gdb.proofs.checking.look_ahead.Goals as goal

pub returns-in_default : goal.returns-in_default
returns-in_default c =
    let s = c.args.machine.now in
    let goes = c.in_ok-why.ensures.first s most_checked c.in_ok-run.ensures.begins in
    IfOk-weaker c.told.result _ (λ ahead. LeadsAhead s ahead.steps ahead.text.items) (λ ahead h.
    told_on s c.go_on.new.machine c.in_ok-run.run' c.go_on.new.self c.in_ok-why.field-0 ahead.steps ahead.text.items
    c.report.result.now c.in_default.is c.in_ok-run.ensures.empty c.in_ok-run.ensures.free goes c.report.ensures
    (h.0 ∙ c.saturating_sub-steps.ensures ∙ ap (λ (l : ℕ). most_checked - l) c.steps_remaining.ensures) h.1)
    c.told.ensures

pub returns : goal.returns
returns c =
    let s = c.args.machine.now in
    let goes = c.in_ok-why.ensures.first s most_checked c.in_ok-run.ensures.begins in
    IfOk-weaker c.told-2.result _ (λ ahead. LeadsAhead s ahead.steps ahead.text.items) (λ ahead h.
    told_stopped s c.go_on.new.machine c.in_ok-run.run' c.go_on.new.self c.in_ok-why.field-0 c.in-Some.why ahead.steps
    ahead.text.items c.report-2.result.now c.in-Some.is
    (λ e. let yes = c.wants_memory.ensures.1 e in let no = c.if-wants_memory.false in
    cc) c.in_ok-run.ensures.empty c.in_ok-run.ensures.free goes c.report-2.ensures h.0 h.1) c.told-2.ensures
