use Rattle.std.proofs.Common.{drop}
use Rattle.dm_host.proofs.Reached.{all_reached}
use Rattle.dm_host.proofs.linear.write_up.Goals as goal

pub returns-in_default : goal.returns-in_default
returns-in_default c = all_reached c.args.session.now c.loop-byte.session c.args.address c.loop-byte.at c.args.bytes.now
    (drop c.loop-byte.byte-index c.args.bytes.now)
    c.in_default.ensures c.loop-byte.invariant.others c.loop-byte.invariant.left
