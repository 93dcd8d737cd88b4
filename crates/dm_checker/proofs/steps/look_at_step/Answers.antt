use Rattle.std.proofs.Common.{◌≡◌, Option, Some, sym, ◌∙◌, ap, subst}
use Rattle.dm_services.specs.declared.state.stop.Stop.{Stop}
use Rattle.dm_services.specs.declared.state.stop.Stop.TheVariants.{Exited}
use Rattle.dm_machine.specs.Run.{Answers}
use Rattle.dm_checker.specs.inner.Steps.{ChecksOne}
use Rattle.dm_checker.proofs.Stepping.{touched_going, touched_calling, goes_on, exits, was_over}
use Rattle.dm_checker.proofs.steps.look_at_step.Goals as goal

pub returns-in-None-clause-ok : goal.returns-in-None-clause-ok
returns-in-None-clause-ok c =
    let s = c.args.machine.now in
    let t = c.make_step-stop.new.machine in
    let before = c.of-before.ensures in
    let v = c.args.kept.now in
    let touched = touched_going s t v c.new-found.result.items c.put_touched.new.out.items c.new-found.ensures.items
    c.in_ok-put_touched.ensures c.in-None.ensures.answers in
    goes_on c.args.free s t v c.look.new.kept c.args.origins.now c.look.new.origins c.put_touched.new.out.items
    c.look.new.out.items c.deref.result.now c.args.report.now c.tell_step.new.report c.in-None.ensures.answers
    touched (c.in_ok-look-in-None.ensures.looks s before c.requires.arena) c.deref.ensures.value
    (c.in_ok-tell_step-in-None.ensures s before) c.in_ok-look-in-None.ensures.arena
    (c.in_ok-look-in-None.ensures.knows s before c.requires.arena)

pub returns-in-Some-call-clause-ok : goal.returns-in-Some-call-clause-ok
returns-in-Some-call-clause-ok c =
    let s = c.args.machine.now in
    let t = c.make_step-stop.new.machine in
    let before = c.of-before.ensures in
    let v = c.args.kept.now in
    let code = c.in-Some-Exited.field-0-0 in
    let F : Option Stop → Type 0 = λ o. ChecksOne c.args.free s o t c.check_end.new.kept c.args.origins.now
    c.check_end.new.origins c.args.report.now c.check_end.new.report in
    let A : Option Stop → Type 0 = λ o. Answers s o t in
    let is = rw c.in-Some-Exited.is at c.in-Some-Exited.field-0-is in
    let exited : c.make_step-stop.result ≡ Some (Exited code) = c.in-Some-Exited.is ∙ ap (λ (x : Stop). Some x) is in
    let touched = touched_calling s v c.of-before.result c.in-Some-call.call c.new-found.result.items
    c.put_touched.new.out.items c.new-found.ensures.items c.in_ok-put_touched.ensures before c.in-Some-call.is in
    subst F (sym exited)
    (exits c.args.free s t code c.check_end.new.kept c.args.origins.now c.check_end.new.origins c.args.report.now
    c.check_end.new.report (subst A exited c.make_step-stop.ensures.answers)
    (c.in_ok-check_end-in-Some-Exited.ensures.finds s before c.requires.arena touched)
    (c.in_ok-check_end-in-Some-Exited.ensures.knows s before c.requires.arena))

pub returns-in-Some-Exited-clause-ok : goal.returns-in-Some-Exited-clause-ok
returns-in-Some-Exited-clause-ok c =
    let s = c.args.machine.now in
    let t = c.make_step-stop.new.machine in
    let code = c.in-Some-Exited.field-0-0 in
    let F : Option Stop → Type 0 = λ o. ChecksOne c.args.free s o t c.args.kept.now c.args.origins.now
    c.args.origins.now c.args.report.now c.args.report.now in
    let A : Option Stop → Type 0 = λ o. Answers s o t in
    let is = rw c.in-Some-Exited.is at c.in-Some-Exited.field-0-is in
    let exited : c.make_step-stop.result ≡ Some (Exited code) = c.in-Some-Exited.is ∙ ap (λ (x : Stop). Some x) is in
    subst F (sym exited)
    (was_over c.args.free s t c.of-before.result code c.args.kept.now c.args.origins.now c.args.report.now
    (subst A exited c.make_step-stop.ensures.answers) c.of-before.ensures c.in_default.is c.requires.arena
    c.tables_and_memory_are_consistent.ensures)
