use Rattle.std.proofs.Common.{arith}
use Rattle.dm_checker.proofs.Levels.{within_next}
use Rattle.dm_checker.proofs.marking.mark_free.Goals as goal

pub loop-copy-preserved : goal.loop-copy-preserved
loop-copy-preserved c = record {
  keeps = λ n small p h. c.mark_block.ensures.keeps n small p (c.loop-copy.invariant.keeps n small p h);
  marked = within_next _ _ c.args.headers.now c.loop-copy.copy-index _ c.loop-copy-test.true
      (c.mark_block.ensures.keeps 2 (omega arith)) c.loop-copy.invariant.marked c.mark_block.ensures.marked;
}
