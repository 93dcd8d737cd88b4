use Rattle.dm_checker.specs.Headers.{overwritten}
use Rattle.dm_checker.proofs.Changed.{each_of_more, each_of_all}
use Rattle.dm_checker.proofs.headers.put_all_overwritten.Goals as goal

pub loop-copy-preserved : goal.loop-copy-preserved
loop-copy-preserved c = λ S same all. each_of_more (overwritten S c.args.space.now.memory) _ _ _ c.args.headers.now
    c.loop-copy.copy-index _ c.loop-copy-test.true (c.loop-copy.invariant S same all)
    (c.in_ok-put_overwritten.ensures S same (all c.loop-copy.copy-index _ c.loop-copy-test.true))

pub returns : goal.returns
returns c = λ S same all. each_of_all (overwritten S c.args.space.now.memory) _ _ c.args.headers.now
    c.loop-copy.copy-index c.loop-copy-test.false (c.loop-copy.invariant S same all)
