use Rattle.std.proofs.Common.{refl, rules, false, sym, subst, arith}
use Rattle.dm_blocks.specs.Reading.{IsSpelledFrom}
use Rattle.dm_blocks.specs.inner.Low.{IsUpTo}
use Rattle.dm_blocks.proofs.LowPart.{at-first, stands-up, stands-whole}
use Rattle.dm_arena.proofs.Surveying.{or_true, or_false, or_none, survey_all, survey_more, survey_whole, taken_front}
use Rattle.dm_arena.proofs.survey.survey_all.Goals as goal
use Rattle.dm_arena.proofs.survey.survey_all.Goals.{then-several, else-several}

pub walk-init : goal.walk-init
walk-init c = λ L s. (L, survey_all _ _ L _ _ s)

pub returns-then-listed : goal.returns-then-listed
returns-then-listed c = λ L s.
    (let k = c.walk.invariant L s in
    let f = taken_front _ _ _ _ (search rules) (c.spelled_header-listed.ensures.front k.0 k.1.choosing.spelled) in
    survey_whole _ _ L _ _ _ _ _ _ k.0 k.1 s (record {
      listed = c.spelled_header-listed.result;
      several = false;
    }) f.0 f.1 _ c.meet-choice.ensures.block c.meet-choice.ensures.largest c.if-listed.true _ refl)

pub walk-preserved-then-not-is_free : goal.walk-preserved-then-not-is_free
walk-preserved-then-not-is_free c = λ L s.
    (let k = c.walk.invariant L s in
    let f = taken_front _ _ _ _ (search rules) (c.spelled_header-listed.ensures.front k.0 k.1.choosing.spelled) in
    survey_more _ _ L _ _ _ _ _ _ k.0 k.1 s (record {
      listed = c.spelled_header-listed.result;
      several = false;
    }) f.0 f.1 _ c.meet-choice.ensures.block c.meet-choice.ensures.largest c.if-listed.false _ _
    c.walk.several c.next-segment.ensures (or_none _) c.next_from-from.ensures)

pub returns-then-joined : goal.returns-then-joined
returns-then-joined c = λ L s.
    (let k = c.walk.invariant L s in
    let f = c.joined_block_at-joined.ensures.front k.0 k.1.choosing.spelled in
    survey_whole _ _ L _ _ _ _ _ _ k.0 k.1 s c.joined_block_at-joined.result f.0 f.1 _
    c.meet-choice-in-walk.ensures.block
    c.meet-choice-in-walk.ensures.largest c.if-joined.true _ refl)

pub walk-preserved : goal.walk-preserved
walk-preserved c = λ L s.
    (let k = c.walk.invariant L s in
    let f = c.joined_block_at-joined.ensures.front k.0 k.1.choosing.spelled in
    survey_more _ _ L _ _ _ _ _ _ k.0 k.1 s c.joined_block_at-joined.result f.0 f.1 _
    c.meet-choice-in-walk.ensures.block
    c.meet-choice-in-walk.ensures.largest c.if-joined.false _ _ c.if-several.several c.next-segment-in-walk.ensures
    (elim c.if-several.branch [
      | then-several w ↦ or_true _ _ _ w.if-several.true w.several-is
      | else-several w ↦ or_false _ _ _ w.if-several.false w.several-is
    ]) c.next_from-from-in-walk.ensures)
