use Rattle.std.proofs.Common.{refl, arith}
use Rattle.dm_space.proofs.Written.{stored-none, stored-more, stored-all}
use Rattle.dm_space.proofs.space.Space.write_bytes.Goals as goal

pub loop-index-init : goal.loop-index-init
loop-index-init c = stored-none _ _ _ _

pub loop-index-preserved : goal.loop-index-preserved
loop-index-preserved c = stored-more _ _ _ _ _ _ _ _ c.loop-index.invariant c.loop-index-test.true refl c.poke.ensures

pub returns : goal.returns
returns c = stored-all _ _ _ _ _ _ c.loop-index.invariant (omega arith)
