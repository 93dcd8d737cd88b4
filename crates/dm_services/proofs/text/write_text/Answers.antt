use Rattle.std.proofs.Common.{◌≡◌, ◌<◌, arith, length, rules, subst}
use Rattle.dm_services.specs.Text.{text_within}
use Rattle.dm_services.proofs.Texts.{IsPut, put-more, put-all, length-text_within}
use Rattle.dm_services.proofs.text.write_text.Goals as goal

pub overflow_cast-index : goal.overflow_cast-index
overflow_cast-index c =
    let whole = c.requires.whole in
    let below : c.loop-index.index < 65536 =
    omega (arith, length-text_within c.args.space.now.memory c.args.segment c.args.offset 65536) in
    search rules

pub loop-index-preserved : goal.loop-index-preserved
loop-index-preserved c =
    let whole = c.requires.whole in
    let left : c.loop-index.index < length (text_within c.args.space.now.memory c.args.segment c.args.offset 65536) =
    omega arith in
    let room = c.loop-index.invariant.room in
    put-more _ _ _ _ _ _ _ _ _ c.loop-index.invariant left (omega arith) c.peek.ensures c.put.ensures

pub returns : goal.returns
returns c =
    let whole = c.requires.whole in
    let last : c.loop-index.index ≡ c.args.length = omega arith in
    put-all _ _ _ _ _ _ _ (subst (λ k. IsPut c.args.console.now c.loop-index.console c.args.space.now.memory
    c.args.segment c.args.offset 65536 k) last c.loop-index.invariant) whole
