use Rattle.dm_proc.proofs.Writing.{written-none, written-more, written-all}
use Rattle.std.proofs.Common.{refl, arith}
use Rattle.dm_proc.proofs.writes.write_from.Goals as goal

pub loop-at-init : goal.loop-at-init
loop-at-init c = written-none _ _ _ _

pub loop-at-preserved : goal.loop-at-preserved
loop-at-preserved c = written-more _ _ _ _ _ _ _ _ _ c.loop-at.invariant c.loop-at-test.true refl refl
    c.write_byte.ensures

pub returns : goal.returns
returns c = written-all _ _ _ _ _ _ c.loop-at.invariant (omega arith)
