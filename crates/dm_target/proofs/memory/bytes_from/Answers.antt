use Rattle.std.proofs.Common.{[], ◌∙◌, rules}
use Rattle.dm_views.proofs.NumberedTexts.{numbered_none, numbered_more}
use Rattle.dm_target.specs.Memory.{one_byte}
use Rattle.dm_target.proofs.memory.bytes_from.Goals as goal

pub loop-k-init : goal.loop-k-init
loop-k-init c = c.new-bytes.ensures.items ∙ numbered_none [] (one_byte c.args.space.now.memory c.args.address)

pub loop-k-preserved : goal.loop-k-preserved
loop-k-preserved c = numbered_more [] c.loop-k.bytes.items _ (one_byte c.args.space.now.memory c.args.address)
    c.loop-k.k c.loop-k.invariant (search rules)
