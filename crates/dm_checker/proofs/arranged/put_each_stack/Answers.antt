use Rattle.dm_checker.specs.Arranged.{stack_in}
use Rattle.dm_checker.proofs.Changed.{each_of_more, each_of_all}
use Rattle.dm_checker.proofs.arranged.put_each_stack.Goals as goal

pub loop-copy-preserved : goal.loop-copy-preserved
loop-copy-preserved c = each_of_more (stack_in c.args.at) _ _ _ c.args.headers.now c.loop-copy.copy-index _
    c.loop-copy-test.true c.loop-copy.invariant c.in_ok-put_stack_in.ensures

pub returns : goal.returns
returns c = each_of_all (stack_in c.args.at) _ _ c.args.headers.now c.loop-copy.copy-index
    c.loop-copy-test.false c.loop-copy.invariant
