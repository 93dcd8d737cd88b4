use Rattle.std.proofs.Common.{arith}
use Rattle.dm_origins.proofs.Freeing.{same_next, all_same}
use Rattle.dm_origins.proofs.freed.same_until.Goals as goal

pub loop-header-preserved : goal.loop-header-preserved
loop-header-preserved c = record {
  from = c.end_within-end.ensures.from;
  to = omega arith;
  same = same_next c.args.at c.loop-header.end c.end_within-end.result c.args.headers.now c.loop-header.header-index _
      c.loop-header-test.true c.end_within-end.ensures.to c.loop-header.invariant.same c.end_within-end.ensures.same;
}

pub returns-clause-same : goal.returns-clause-same
returns-clause-same c = all_same c.args.at c.loop-header.end c.args.headers.now
    (λ k d low high. c.loop-header.invariant.same k d low (omega arith))
