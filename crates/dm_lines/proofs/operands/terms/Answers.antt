use Rattle.std.proofs.Common.{rules}
use Rattle.dm_lines.proofs.Parts.{too_many}
use Rattle.dm_lines.proofs.operands.terms.Goals as goal

pub returns-in-Some-more : goal.returns-in-Some-more
returns-in-Some-more c = too_many c.args.tokens.now c.in-Some.rest.now c.in-Some-more.field-0.now c.front.result.0.now
    c.front-2.result.0.now (search rules) (search rules) (search rules)
