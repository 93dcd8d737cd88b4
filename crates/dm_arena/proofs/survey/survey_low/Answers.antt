use Rattle.std.proofs.Common.{[], refl, rules, false, sym, subst, arith}
use Rattle.dm_blocks.specs.Chain.{first_header, next}
use Rattle.dm_blocks.specs.Reading.{IsSpelledFrom}
use Rattle.dm_blocks.specs.Listing.{Leads, LeadsOn}
use Rattle.dm_blocks.proofs.LowPart.{leads-first, stands-up, stands-whole}
use Rattle.dm_arena.proofs.Surveying.{or_true, or_false, or_none, survey_all, survey_more, survey_whole, taken_front}
use Rattle.dm_arena.proofs.survey.survey_low.Goals as goal
use Rattle.dm_arena.proofs.survey.survey_low.Goals.{then-several, else-several}

pub walk-init : goal.walk-init
walk-init c = record { led = ([], leads-first _); surveying = λ L s. (L, survey_all _ _ L _ _ s) }

pub returns-then-listed-clause-survey : goal.returns-then-listed-clause-survey
returns-then-listed-clause-survey c = λ L s.
    (let k = c.walk.invariant.surveying L s in
    let f = taken_front _ _ _ _ (search rules) (c.in-Some.ensures.front k.0 k.1.choosing.spelled) in
    survey_whole _ _ L _ _ _ _ _ _ k.0 k.1 s (record { listed = c.in-Some.listed; several = false }) f.0 f.1 _
    c.meet-choice.ensures.block c.meet-choice.ensures.largest c.if-listed.true _ refl)

pub walk-preserved-then-not-is_free : goal.walk-preserved-then-not-is_free
walk-preserved-then-not-is_free c = record {
  led = (let u = c.walk.invariant.led in
      let m = stands-up _ _ _ c.if-listed.false (c.in-Some.ensures.proceeds u.0 u.1) in
      (m.0, subst (λ t. Leads c.args.space.now.memory [] first_header m.0 t) (sym c.next-segment.ensures) m.1));
  surveying = λ L s.
      (let k = c.walk.invariant.surveying L s in
      let f = taken_front _ _ _ _ (search rules) (c.in-Some.ensures.front k.0 k.1.choosing.spelled) in
      survey_more _ _ L _ _ _ _ _ _ k.0 k.1 s (record { listed = c.in-Some.listed; several = false }) f.0 f.1 _
      c.meet-choice.ensures.block c.meet-choice.ensures.largest c.if-listed.false _ _ c.walk.several
      c.next-segment.ensures (or_none _) c.next_from-from.ensures);
}

pub returns-then-joined-clause-survey : goal.returns-then-joined-clause-survey
returns-then-joined-clause-survey c = λ L s.
    (let k = c.walk.invariant.surveying L s in
    let f = c.in-Some-low_joined_after.ensures.front k.0 (subst (λ x. IsSpelledFrom c.args.space.now.memory x k.0)
    (sym c.in-Some.ensures.there) k.1.choosing.spelled) in
    survey_whole _ _ L _ _ _ _ _ _ k.0 k.1 s c.in-Some-low_joined_after.joined f.0 f.1 _
    c.meet-choice-in-walk.ensures.block
    c.meet-choice-in-walk.ensures.largest c.if-joined.true _ refl)

pub walk-preserved : goal.walk-preserved
walk-preserved c = record {
  led = (let u = c.walk.invariant.led in
      let m = stands-up _ _ _ c.if-joined.false ((subst (λ x. LeadsOn c.args.space.now.memory x
      c.in-Some-low_joined_after.joined.listed.last (next c.in-Some-low_joined_after.joined.listed.header))
      c.in-Some.ensures.there c.in-Some-low_joined_after.ensures.proceeds) u.0 u.1) in
      (m.0, subst (λ t. Leads c.args.space.now.memory [] first_header m.0 t) (sym c.next-segment-in-walk.ensures) m.1));
  surveying = λ L s.
      (let k = c.walk.invariant.surveying L s in
      let f = c.in-Some-low_joined_after.ensures.front k.0 (subst (λ x. IsSpelledFrom c.args.space.now.memory x k.0)
      (sym c.in-Some.ensures.there) k.1.choosing.spelled) in
      survey_more _ _ L _ _ _ _ _ _ k.0 k.1 s c.in-Some-low_joined_after.joined f.0 f.1 _
      c.meet-choice-in-walk.ensures.block
      c.meet-choice-in-walk.ensures.largest c.if-joined.false _ _ c.if-several.several c.next-segment-in-walk.ensures
      (elim c.if-several.branch [
        | then-several w ↦ or_true _ _ _ w.if-several.true w.several-is
        | else-several w ↦ or_false _ _ _ w.if-several.false w.several-is
      ]) c.next_from-from-in-walk.ensures);
}
