use Rattle.dm_touches.specs.Elements.{bytes_of}
use Rattle.dm_touches.specs.Found.{of_header}
use Rattle.dm_checker.proofs.Changed.{each_of_more, each_of_all}
use Rattle.dm_checker.proofs.touched.put_of_each.Goals as goal

pub loop-copy-preserved : goal.loop-copy-preserved
loop-copy-preserved c = each_of_more (of_header c.args.a20 (bytes_of c.args.touched.now.reads)
    (bytes_of c.args.touched.now.writes)) _ _ _ c.args.headers.now c.loop-copy.copy-index _
    c.loop-copy-test.true c.loop-copy.invariant c.in_ok-put_of_header.ensures

pub returns : goal.returns
returns c = each_of_all (of_header c.args.a20 (bytes_of c.args.touched.now.reads) (bytes_of c.args.touched.now.writes))
    _ _ c.args.headers.now c.loop-copy.copy-index c.loop-copy-test.false c.loop-copy.invariant
