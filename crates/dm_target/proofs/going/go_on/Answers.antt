use Rattle.std.proofs.Common.{refl, rules}
use Rattle.dm_target.specs.Going.{plain}
use Rattle.dm_target.proofs.Lists.{nothing_in}
use Rattle.dm_target.proofs.going.go_on.Goals as goal

pub returns-then-is_none-clause-goes : goal.returns-then-is_none-clause-goes
returns-then-is_none-clause-goes c =
    plain c.run.result (nothing_in c.args.points.now c.is_empty.result c.is_empty.ensures c.if-is_empty.true)
    (nothing_in c.args.watches.now c.is_empty-then-is_empty.result c.is_empty-then-is_empty.ensures
    c.if-is_empty-2.true) (search rules) refl c.run.ensures.run
