use Rattle.std.proofs.Common.{rules}
use Rattle.dm_lines.proofs.Parts.{inside_closed, inside_open}
use Rattle.dm_lines.proofs.operands.before_bracket.Goals as goal

pub returns-then-closes : goal.returns-then-closes
returns-then-closes c = inside_closed c.args.tokens.now _ c.closes.result (search rules) c.closes.ensures
    c.if-closes.true

pub returns-else-closes : goal.returns-else-closes
returns-else-closes c = inside_open c.args.tokens.now _ c.closes.result (search rules) c.closes.ensures
    c.if-closes.false
