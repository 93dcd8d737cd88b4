use Rattle.std.proofs.Common.{max, ◌∙◌, ap}
use Rattle.std.specs.Prelude.{option_to_list}
use Rattle.dm_arena.specs.Blocks.{largest}
use Rattle.dm_arena.specs.inner.Walks.{pick}
use Rattle.dm_arena.proofs.Choosing.{all_block, all_largest, met_more, choosing_all}
use Rattle.dm_arena.proofs.fit.choose.Goals as goal

pub walk-init : goal.walk-init
walk-init c = λ L s. (L, choosing_all _ _ L _ _ _ _ s)

pub returns-then-listed-clause-block : goal.returns-then-listed-clause-block
returns-then-listed-clause-block c = λ L s.
    (let k = c.walk.invariant L s in
    let f = c.joined_at-listed.ensures.front k.0 k.1.spelled in
    all_block _ _ L _ _ _ _ _ k.0 k.1 _ f.0 f.1 _ (c.meet-choice.ensures.block
    ∙ ap (λ o. pick c.args.upper c.args.strategy c.args.n c.walk.choice.block (option_to_list o))
    c.left_part.ensures) (c.meet-choice.ensures.largest
    ∙ ap (λ o. max c.walk.choice.largest (largest c.args.upper c.args.strategy (option_to_list o)))
    c.left_part.ensures) c.if-listed.true)

pub returns-then-listed-clause-largest : goal.returns-then-listed-clause-largest
returns-then-listed-clause-largest c = λ L s.
    (let k = c.walk.invariant L s in
    let f = c.joined_at-listed.ensures.front k.0 k.1.spelled in
    all_largest _ _ L _ _ _ _ _ k.0 k.1 _ f.0 f.1 _ (c.meet-choice.ensures.block
    ∙ ap (λ o. pick c.args.upper c.args.strategy c.args.n c.walk.choice.block (option_to_list o))
    c.left_part.ensures) (c.meet-choice.ensures.largest
    ∙ ap (λ o. max c.walk.choice.largest (largest c.args.upper c.args.strategy (option_to_list o)))
    c.left_part.ensures) c.if-listed.true)

pub walk-preserved : goal.walk-preserved
walk-preserved c = λ L s.
    (let k = c.walk.invariant L s in
    let f = c.joined_at-listed.ensures.front k.0 k.1.spelled in
    met_more _ _ L _ _ _ _ _ k.0 k.1 _ f.0 f.1 _ (c.meet-choice.ensures.block
    ∙ ap (λ o. pick c.args.upper c.args.strategy c.args.n c.walk.choice.block (option_to_list o))
    c.left_part.ensures) (c.meet-choice.ensures.largest
    ∙ ap (λ o. max c.walk.choice.largest (largest c.args.upper c.args.strategy (option_to_list o)))
    c.left_part.ensures) c.if-listed.false _ c.next-segment.ensures)
