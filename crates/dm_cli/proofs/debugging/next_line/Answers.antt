use Rattle.std.proofs.Common.{rules, inr, refl, arith}
use Rattle.dm_cli.proofs.Conversations.{line_read}
use Rattle.dm_cli.proofs.debugging.next_line.Goals as goal

pub returns-in-Ok-clause-line : goal.returns-in-Ok-clause-line
returns-in-Ok-clause-line g c = (
  search rules,
  omega (arith, c.in-Ok.ensures.ok, c.clear.ensures.len),
  line_read _ _ _ _ c.clear.ensures.items c.in-Ok.ensures.none_lost c.in-Ok.ensures.stops c.in-Ok.ensures.bytes
      c.in-Ok.ensures.rest,
)

pub returns-in-Ok-2-clause-fault : goal.returns-in-Ok-2-clause-fault
returns-in-Ok-2-clause-fault g c = inr (inr (
  refl,
  omega (arith, c.in-Ok.ensures.ok, c.clear.ensures.len, c.if-count-left.false),
  line_read _ _ _ _ c.clear.ensures.items c.in-Ok.ensures.none_lost c.in-Ok.ensures.stops c.in-Ok.ensures.bytes
      c.in-Ok.ensures.rest,
))
