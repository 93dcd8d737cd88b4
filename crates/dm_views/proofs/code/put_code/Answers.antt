use Rattle.std.proofs.Common.{refl, arith}
use Rattle.dm_views.proofs.CodeTexts.{lines_none, lines_more, lines_all}
use Rattle.dm_views.proofs.code.put_code.Goals as goal

pub loop-init : goal.loop-init
loop-init c = lines_none _ _ _ _

pub loop-preserved : goal.loop-preserved
loop-preserved c =
    let line = c.in_ok-len.ensures in
    lines_more _ _ _ _ _ _ _ _ _ _ _ c.loop.invariant line.1 line.2 refl

pub returns : goal.returns
returns c = lines_all _ _ _ _ _ _ _ _ c.loop.invariant (omega arith)
