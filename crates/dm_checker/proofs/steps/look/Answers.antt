use Rattle.std.proofs.Common.{sym, ◌∙◌}
use Rattle.std.proofs.lemmas.Result.{on_ok_weaker}
use Rattle.dm_checker.proofs.Seen.{seen_arena}
use Rattle.dm_checker.proofs.Looking.{seen_looks}
use Rattle.dm_checker.proofs.Stepping.{known_after}
use Rattle.dm_checker.proofs.steps.look.Goals as goal

pub returns-then-is_seen-clause-looks : goal.returns-then-is_seen-clause-looks
returns-then-is_seen-clause-looks c = on_ok_weaker c.append_call_findings.result (λ e s before arena.
    let t = c.args.machine.now in
    let after = seen_arena s.upper t.upper s.memory t.memory c.args.kept.now arena c.if-is_seen.ensures in
    seen_looks s t c.args.before.now c.cpu.result c.args.kept.now c.args.out.now.items
    c.append_call_findings.new.out.items before arena c.if-is_seen.ensures after (sym c.arranges.ensures
    ∙ c.if-not-arranges.true) c.cpu.ensures e
    ) c.append_call_findings.ensures

pub returns-then-is_seen-clause-arena : goal.returns-then-is_seen-clause-arena
returns-then-is_seen-clause-arena c = on_ok_weaker c.append_call_findings.result (λ e.
    let s = c.requires.0 in
    let t = c.args.machine.now in
    seen_arena s.upper t.upper s.memory t.memory c.args.kept.now c.requires.2 c.if-is_seen.ensures
    ) c.append_call_findings.ensures

pub returns-then-is_seen-clause-knows : goal.returns-then-is_seen-clause-knows
returns-then-is_seen-clause-knows c = on_ok_weaker c.append_call_findings.result (λ e s before arena.
    let t = c.args.machine.now in
    let after = seen_arena s.upper t.upper s.memory t.memory c.args.kept.now arena c.if-is_seen.ensures in
    known_after s t c.args.before.now c.args.kept.now c.args.kept.now c.args.origins.now c.record_step.new.origins
    before arena after (c.in_ok-record_step.ensures s before)
    ) c.append_call_findings.ensures

pub returns-clause-knows : goal.returns-clause-knows
returns-clause-knows c s before arena =
    known_after s c.args.machine.now c.args.before.now c.args.kept.now c.in_ok-new.new c.args.origins.now
    c.record_step-2.new.origins before arena c.in_ok-new.ensures (c.in_ok-record_step-2.ensures s before)
