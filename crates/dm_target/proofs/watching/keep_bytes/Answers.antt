use Rattle.std.proofs.Common.{rules}
use Rattle.dm_views.proofs.NumberedTexts.{numbered_none, numbered_more}
use Rattle.dm_target.specs.Memory.{one_byte}
use Rattle.dm_target.proofs.watching.keep_bytes.Goals as goal

pub loop-k-init : goal.loop-k-init
loop-k-init c = numbered_none c.args.kept.now.items (one_byte c.args.space.now.memory c.args.point.now.address)

pub loop-k-preserved : goal.loop-k-preserved
loop-k-preserved c = numbered_more c.args.kept.now.items c.loop-k.kept.items _
    (one_byte c.args.space.now.memory c.args.point.now.address) c.loop-k.k c.loop-k.invariant (search rules)
