use Rattle.std.proofs.Common.{arith}
use Rattle.dm_target.proofs.Guarding.{range_marked}
use Rattle.dm_target.proofs.nearby.mark_range.Goals as goal

pub returns-clause-marked : goal.returns-clause-marked
returns-clause-marked c = range_marked c.args.point.now _ _ c.args.level _ _ c.mark.ensures c.requires (omega arith)
    (λ k under small. omega (arith, under, small))
