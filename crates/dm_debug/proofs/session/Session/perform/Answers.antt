use Rattle.std.proofs.Common.{ℕ, List, sym, subst}
use Rattle.std.proofs.lemmas.Result.{on_ok_weaker, on_err_weaker}
use Rattle.dm_machine.specs.declared.until.Breakpoint.{Breakpoint}
use Rattle.dm_machine.specs.Until.{RunsUntil}
use Rattle.dm_requests.specs.declared.commands.command.Command.TheVariants as v
use Rattle.dm_debug.specs.Debugged.{Debugged}
use Rattle.dm_debug.specs.Points.{with_point, without_point}
use Rattle.dm_debug.specs.Runs.{GoesTo}
use Rattle.dm_debug.specs.Sessions.{Does, DoesPart, with_points, with_entered, done, registers, code, bytes, arena, pages, extended, points, output, goes, traces, sets, clears, enters, nothing, ran, traced}
use Rattle.dm_debug.proofs.Traced.{at_err}
use Rattle.dm_debug.proofs.Performed.{on_ok_both, alone_is, does_same, does_show, part_same}
use Rattle.dm_debug.proofs.session.Session.perform.Goals as goal

pub returns-in-Registers-clause-ok : goal.returns-in-Registers-clause-ok
returns-in-Registers-clause-ok c = on_ok_weaker c.put_machine.result (λ x. does_show _ _ _
    (v.Registers) _ _ x.0 c.self.view_is c.in-Registers.is c.requires.empty x.1 (registers x.0 x.2))
    c.put_machine.ensures

pub returns-in-Registers-clause-err : goal.returns-in-Registers-clause-err
returns-in-Registers-clause-err c = at_err c.put_machine.result (nothing _)

pub returns-in-Unassemble-clause-ok : goal.returns-in-Unassemble-clause-ok
returns-in-Unassemble-clause-ok c = on_ok_weaker c.unassemble.result (λ x. does_show _ _ _
    (v.Unassemble c.in-Unassemble.at c.in-Unassemble.count) _ _ x.0 c.self-in-Unassemble.view_is c.in-Unassemble.is
    c.requires.empty x.1 (code c.in-Unassemble.at c.in-Unassemble.count x.0 x.2)) c.unassemble.ensures

pub returns-in-Unassemble-clause-err : goal.returns-in-Unassemble-clause-err
returns-in-Unassemble-clause-err c = at_err c.unassemble.result (nothing _)

pub returns-in-Dump-clause-ok : goal.returns-in-Dump-clause-ok
returns-in-Dump-clause-ok c = on_ok_weaker c.dump.result (λ x. does_show _ _ _ (v.Dump c.in-Dump.at c.in-Dump.count) _ _
    _ c.self-in-Dump.view_is c.in-Dump.is c.requires.empty x (bytes c.in-Dump.at c.in-Dump.count)) c.dump.ensures

pub returns-in-Dump-clause-err : goal.returns-in-Dump-clause-err
returns-in-Dump-clause-err c = at_err c.dump.result (nothing _)

pub returns-in-Arena-clause-ok : goal.returns-in-Arena-clause-ok
returns-in-Arena-clause-ok c = on_ok_weaker c.arena.result (λ x. does_show _ _ _
    (v.Arena) _ _ x.0 c.self-in-Arena.view_is c.in-Arena.is c.requires.empty x.1 (arena x.0 x.2)) c.arena.ensures

pub returns-in-Arena-clause-err : goal.returns-in-Arena-clause-err
returns-in-Arena-clause-err c = at_err c.arena.result (nothing _)

pub returns-in-Pages-clause-ok : goal.returns-in-Pages-clause-ok
returns-in-Pages-clause-ok c = on_ok_weaker c.pages.result (λ x. does_show _ _ _ (v.Pages) _ _ _ c.self-in-Pages.view_is
    c.in-Pages.is c.requires.empty x (pages)) c.pages.ensures

pub returns-in-Pages-clause-err : goal.returns-in-Pages-clause-err
returns-in-Pages-clause-err c = at_err c.pages.result (nothing _)

pub returns-in-Extended-clause-ok : goal.returns-in-Extended-clause-ok
returns-in-Extended-clause-ok c = on_ok_weaker c.extended.result (λ x. does_show _ _ _
    (v.Extended) _ _ _ c.self-in-Extended.view_is c.in-Extended.is c.requires.empty x (extended)) c.extended.ensures

pub returns-in-Extended-clause-err : goal.returns-in-Extended-clause-err
returns-in-Extended-clause-err c = at_err c.extended.result (nothing _)

pub returns-in-Output-clause-ok : goal.returns-in-Output-clause-ok
returns-in-Output-clause-ok c = on_ok_weaker c.output.result (λ x. does_show _ _ _
    (v.Output) _ _ _ c.self-in-Output.view_is c.in-Output.is c.requires.empty x (output)) c.output.ensures

pub returns-in-Output-clause-err : goal.returns-in-Output-clause-err
returns-in-Output-clause-err c = at_err c.output.result (nothing _)

pub returns-in-Breakpoints-clause-ok : goal.returns-in-Breakpoints-clause-ok
returns-in-Breakpoints-clause-ok c = on_ok_weaker c.put_points.result
    (λ x. does_show _ _ _ v.Breakpoints _ _ _ c.self-in-Breakpoints.view_is c.in-Breakpoints.is c.requires.empty
    (rw c.as_slice-in-Breakpoints.ensures.value at x) points) c.put_points.ensures

pub returns-in-Breakpoints-clause-err : goal.returns-in-Breakpoints-clause-err
returns-in-Breakpoints-clause-err c = at_err c.put_points.result (nothing _)

pub returns-in-Go-clause-ok : goal.returns-in-Go-clause-ok
returns-in-Go-clause-ok c = on_ok_weaker c.go.result (λ x.
    does_same _ _ _ _ (v.Go c.in-Go.n) _ x.0 c.self-in-Go.view_is c.in-Go.is (alone_is _ _ x.0 c.requires.empty x.1)
    (goes c.in-Go.n x.0 c.go.new.machine (subst (λ (ps : List Breakpoint). GoesTo c.self-in-Go.inside.machine c.in-Go.n
    ps x.0 c.go.new.machine) c.as_slice.ensures.value x.2))) c.go.ensures.ok

pub returns-in-Go-clause-err : goal.returns-in-Go-clause-err
returns-in-Go-clause-err c = on_err_weaker c.go.result (λ x.
    part_same _ _ _ _ (v.Go c.in-Go.n) c.self-in-Go.view_is c.in-Go.is
    (ran c.in-Go.n x.0 c.go.new.machine (subst (λ (ps : List Breakpoint). RunsUntil c.self-in-Go.inside.machine
    c.in-Go.n ps x.0 c.go.new.machine) c.as_slice.ensures.value x.1))) c.go.ensures.err

pub returns-in-Trace-clause-ok : goal.returns-in-Trace-clause-ok
returns-in-Trace-clause-ok c = on_ok_weaker c.trace.result (λ x.
    does_same _ _ _ _ (v.Trace c.in-Trace.n) _ x.0 c.self-in-Trace.view_is c.in-Trace.is
    (alone_is _ _ x.0 c.requires.empty x.1)
    (traces c.in-Trace.n x.0 c.trace.new.machine x.2)) c.trace.ensures.ok

pub returns-in-Trace-clause-err : goal.returns-in-Trace-clause-err
returns-in-Trace-clause-err c = on_err_weaker c.trace.result (λ x. part_same _ _ _ _ (v.Trace c.in-Trace.n)
    c.self-in-Trace.view_is c.in-Trace.is (traced c.in-Trace.n c.trace.new.machine x)) c.trace.ensures.err

pub returns-in-Break-clause-ok : goal.returns-in-Break-clause-ok
returns-in-Break-clause-ok c = on_ok_both c.set_point.result (λ x y.
    subst (λ (s : Debugged). Does c.args.self.now c.args.command.now c.set_point.new.text.items s) (sym x)
    (subst (λ (t : List ℕ). Does c.args.self.now c.args.command.now t (with_points c.args.self.now
    (with_point c.args.self.now.points c.in-Break.at))) (sym (alone_is _ _ done c.requires.empty y))
    (rw c.in-Break.is (sets c.in-Break.at)))) c.set_point.ensures.ok c.set_point.ensures.told

pub returns-in-Break-clause-err : goal.returns-in-Break-clause-err
returns-in-Break-clause-err c = on_err_weaker c.set_point.result
    (λ x. subst (λ (s : Debugged). DoesPart c.args.self.now c.args.command.now s) (sym x) (nothing _))
    c.set_point.ensures.err

pub returns-in-Clear-clause-ok : goal.returns-in-Clear-clause-ok
returns-in-Clear-clause-ok c = on_ok_both c.clear_point.result (λ x y.
    subst (λ (s : Debugged). Does c.args.self.now c.args.command.now c.clear_point.new.text.items s) (sym x)
    (subst (λ (t : List ℕ). Does c.args.self.now c.args.command.now t (with_points c.args.self.now
    (without_point c.args.self.now.points c.in-Clear.at))) (sym (alone_is _ _ done c.requires.empty y))
    (rw c.in-Clear.is (clears c.in-Clear.at)))) c.clear_point.ensures.ok c.clear_point.ensures.told

pub returns-in-Clear-clause-err : goal.returns-in-Clear-clause-err
returns-in-Clear-clause-err c = on_err_weaker c.clear_point.result
    (λ x. subst (λ (s : Debugged). DoesPart c.args.self.now c.args.command.now s) (sym x) (nothing _))
    c.clear_point.ensures.err

pub returns-in-Enter-clause-ok : goal.returns-in-Enter-clause-ok
returns-in-Enter-clause-ok c = on_ok_both c.enter_bytes.result (λ x y.
    subst (λ (s : Debugged). Does c.args.self.now c.args.command.now c.enter_bytes.new.text.items s) (sym x)
    (subst (λ (t : List ℕ). Does c.args.self.now c.args.command.now t (with_entered c.args.self.now c.in-Enter.at
    c.in-Enter.bytes)) (sym (alone_is _ _ done c.requires.empty y))
    (rw c.in-Enter.is (enters c.in-Enter.at c.in-Enter.bytes)))) c.enter_bytes.ensures.ok c.enter_bytes.ensures.told

pub returns-in-Enter-clause-err : goal.returns-in-Enter-clause-err
returns-in-Enter-clause-err c = on_err_weaker c.enter_bytes.result
    (λ x. subst (λ (s : Debugged). DoesPart c.args.self.now c.args.command.now s) (sym x) (nothing _))
    c.enter_bytes.ensures.err
