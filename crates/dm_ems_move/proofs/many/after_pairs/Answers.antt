use Rattle.std.proofs.Common.{◌≡◌, ◌+◌, ◌-◌, Err, sym, ◌∙◌, subst, arith}
use Rattle.dm_ems_move.specs.Many.{after_pairs}
use Rattle.dm_ems_move.proofs.Pairs.{after_more, after_bad}
use Rattle.dm_ems_move.proofs.many.after_pairs.Goals as goal

pub returns-in-Err : goal.returns-in-Err
returns-in-Err c =
    let a = c.args in let k = c.loop-pair.pair in
    let bad : after_pairs a.space.now.memory a.blocks.now a.by_segment a.segment a.offset (k + 1)
    ≡ Err c.in-Err.status =
    after_more a.space.now.memory a.blocks.now a.by_segment a.segment a.offset k
    ∙ rw (c.loop-pair.invariant, ← c.word_after-page.ensures, ← c.word_after-value.ensures) (sym c.in-Err.ensures) in
    let whole : k + 1 + (a.count - (k + 1)) ≡ a.count = omega (arith, c.loop-pair-test.true) in
    sym (subst (λ n. after_pairs a.space.now.memory a.blocks.now a.by_segment a.segment a.offset n
    ≡ Err c.in-Err.status) whole
    (after_bad a.space.now.memory a.blocks.now a.by_segment a.segment a.offset (k + 1)
    (a.count - (k + 1)) c.in-Err.status bad))
