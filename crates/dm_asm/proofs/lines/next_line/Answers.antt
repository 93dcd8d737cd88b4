use Rattle.std.proofs.Common.{arith, rules, sym, ◌∙◌}
use Rattle.dm_asm.proofs.Ends.{line_at, still_open, line_whole}
use Rattle.dm_asm.proofs.lines.next_line.Goals as goal

pub returns-then-byte-eq10-clause-line : goal.returns-then-byte-eq10-clause-line
returns-then-byte-eq10-clause-line c = line_at c.args.text.now c.loop-at.at c.trimmed.result.now
    (omega arith) c.if-byte-eq10.true c.loop-at.invariant c.trimmed.ensures

pub loop-at-preserved : goal.loop-at-preserved
loop-at-preserved c = still_open c.args.text.now c.loop-at.at (omega arith) (search (
  rules,
  c.if-byte-eq10.false,
)) c.loop-at.invariant

pub returns-else-is_empty-clause-line : goal.returns-else-is_empty-clause-line
returns-else-is_empty-clause-line c = line_whole c.args.text.now c.loop-at.at (omega arith) (sym c.is_empty.ensures
    ∙ c.if-is_empty.false) c.loop-at.invariant
