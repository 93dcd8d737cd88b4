use Rattle.std.proofs.Common.{rules}
use Rattle.dm_debug.specs.stops.Events.{byte_at}
use Rattle.dm_debug.proofs.stops.Watching.{one_more}
use Rattle.dm_debug.proofs.stops.memory.range_bytes.Goals as goal

pub loop-k-preserved : goal.loop-k-preserved
loop-k-preserved c = one_more (byte_at c.args.space.now.memory) c.args.range.now.address c.loop-k.k c.loop-k.bytes.items
    _ c.loop-k.invariant (search rules)
