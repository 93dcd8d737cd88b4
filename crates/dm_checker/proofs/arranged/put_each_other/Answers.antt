use Rattle.dm_checker.specs.Arranged.{other_block}
use Rattle.dm_checker.proofs.Changed.{each_of_more, each_of_all}
use Rattle.dm_checker.proofs.arranged.put_each_other.Goals as goal

pub loop-copy-preserved : goal.loop-copy-preserved
loop-copy-preserved c = each_of_more (other_block c.args.present c.args.segment) _ _ _ c.args.headers.now
    c.loop-copy.copy-index _ c.loop-copy-test.true c.loop-copy.invariant c.in_ok-put_other_block.ensures

pub returns : goal.returns
returns c = each_of_all (other_block c.args.present c.args.segment) _ _ c.args.headers.now c.loop-copy.copy-index
    c.loop-copy-test.false c.loop-copy.invariant
