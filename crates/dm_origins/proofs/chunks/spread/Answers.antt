use Rattle.std.proofs.Common.{arith}
use Rattle.dm_origins.proofs.Chunked.{spread_alone}
use Rattle.dm_origins.proofs.chunks.spread.Goals as goal

pub returns-in-Some-clause-same : goal.returns-in-Some-clause-same
returns-in-Some-clause-same c = spread_alone c.args.wholes.now c.args.each.now c.write.new.each c.args.chunk
    c.in-Some.origin (omega arith) c.in-Some.is c.write.ensures
