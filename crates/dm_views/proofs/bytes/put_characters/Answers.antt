use Rattle.std.proofs.Common.{arith, rules}
use Rattle.dm_views.proofs.NumberedTexts.{numbered_none, numbered_more, numbered_all}
use Rattle.dm_views.proofs.bytes.put_characters.Goals as goal

pub loop-k-init : goal.loop-k-init
loop-k-init c = numbered_none _ _

pub loop-k-preserved : goal.loop-k-preserved
loop-k-preserved c = numbered_more _ _ _ _ _ c.loop-k.invariant (search rules)

pub returns : goal.returns
returns c = numbered_all _ _ _ _ _ (omega arith) c.loop-k.invariant
