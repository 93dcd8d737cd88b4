use Rattle.std.proofs.Common.{◌≡◌, ◌-◌, ◌+◌, suc, sym, ◌∙◌, arith}
use Rattle.dm_findings.proofs.processes.Naming.{zero_here, zero_later, zero_nowhere}
use Rattle.dm_findings.proofs.processes.process.end_of_variables.Goals as goal

pub returns-then-peek16-eq0-clause-end : goal.returns-then-peek16-eq0-clause-end
returns-then-peek16-eq0-clause-end c =
    sym (c.loop-at.invariant ∙ zero_here c.args.space.now.memory c.args.segment c.loop-at.at _ (omega arith)
    (sym c.peek16.ensures ∙ c.if-peek16-eq0.true))

pub loop-at-preserved : goal.loop-at-preserved
loop-at-preserved c =
    let one : 0x8000 - c.loop-at.at ≡ suc (0x8000 - (c.loop-at.at + 1)) = omega arith in
    c.loop-at.invariant ∙ zero_later c.args.space.now.memory c.args.segment c.loop-at.at _ _ one
    (λ e. c.if-peek16-eq0.false (c.peek16.ensures ∙ e))

pub returns-clause-end : goal.returns-clause-end
returns-clause-end c =
    let all : c.loop-at.at ≡ 0x8000 = omega arith in
    let none = zero_nowhere c.args.space.now.memory c.args.segment 0x8000 in
    let inv = rw all at c.loop-at.invariant in
    sym (inv ∙ none)
