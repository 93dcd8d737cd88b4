use Rattle.std.proofs.Common.{◌≡◌, ◌∙◌, sym, arith}
use Rattle.dm_services.proofs.Texts.{read-more, read-end, read-all}
use Rattle.dm_services.proofs.text.text_length.Goals as goal

pub returns-then-peek-eq36 : goal.returns-then-peek-eq36
returns-then-peek-eq36 c = read-end _ _ _ _ _ _ c.peek.ensures c.if-peek-eq36.true c.loop-index.invariant

pub loop-index-preserved : goal.loop-index-preserved
loop-index-preserved c = read-more _ _ _ _ _ _ c.loop-index-test.true c.peek.ensures c.if-peek-eq36.false
    c.loop-index.invariant

pub returns : goal.returns
returns c =
    let last : c.loop-index.index ≡ 65536 = omega arith in
    sym last ∙ read-all _ _ _ _ _ (omega arith) c.loop-index.invariant
