use Rattle.std.proofs.Common.{arith, sym, ◌∙◌}
use Rattle.dm_lines.proofs.Parts.{comma_found, comma_later, no_comma}
use Rattle.dm_lines.proofs.operands.front.Goals as goal

pub returns-then-is_between-clause-parts : goal.returns-then-is_between-clause-parts
returns-then-is_between-clause-parts c = comma_found c.args.tokens.now c.loop-i.i _ (omega arith)
    (sym c.is_between.ensures ∙ c.if-is_between.true) c.loop-i.invariant

pub loop-i-preserved : goal.loop-i-preserved
loop-i-preserved c = comma_later c.args.tokens.now c.loop-i.i _ (omega arith) (sym c.is_between.ensures
    ∙ c.if-is_between.false) c.loop-i.invariant

pub returns-clause-parts : goal.returns-clause-parts
returns-clause-parts c = no_comma c.args.tokens.now c.loop-i.i (omega arith) c.loop-i.invariant
