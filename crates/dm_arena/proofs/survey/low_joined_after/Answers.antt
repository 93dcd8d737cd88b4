use Rattle.std.proofs.Common.{arith, refl, rules, sym, ◌∙◌}
use Rattle.dm_arena.proofs.Surveying.{open_start, open_more, close_last, close_taken, close_before_taken, proceeds_then}
use Rattle.dm_arena.proofs.survey.low_joined_after.Goals as goal
use Rattle.dm_arena.proofs.survey.low_joined_after.Goals.{then-listed-via-then-listed, then-listed-via-else-listed+then-not-is_free}

pub loop-listed-init : goal.loop-listed-init
loop-listed-init c = record {
  there = refl;
  fits = c.requires.fits;
  front = λ L s. open_start _ _ L _ (c.requires.front L s);
  proceeds = c.requires.proceeds;
}

pub returns-then-listed-clause-front : goal.returns-then-listed-clause-front
returns-then-listed-clause-front c = λ L s. elim c.then-listed.branch [
  | then-listed-via-then-listed w ↦ close_last _ _ L _ _ w.if-listed.true (c.loop-listed.invariant.front L s)
  | then-listed-via-else-listed+then-not-is_free w ↦ close_taken _ _ L _ _ (search rules)
      (c.loop-listed.invariant.front L s)
]

pub loop-listed-preserved : goal.loop-listed-preserved
loop-listed-preserved c = record {
  there = c.loop-listed.invariant.there;
  fits = omega (arith, c.in-Some.ensures.there, c.in-Some.ensures.fits);
  front = λ L s. (let j = c.loop-listed.invariant.front L s in
      open_more _ _ L _ c.in-Some.after _ j.0 j.1 c.if-listed.false (search rules) (search rules)
      (c.in-Some.ensures.there ∙ c.next.ensures) _ c.next.ensures c.in-Some.ensures.front);
  proceeds = proceeds_then _ _ _ _ _ _ _ _ c.loop-listed.invariant.proceeds c.if-listed.false
      (sym c.next.ensures) c.in-Some.ensures.proceeds (omega (arith, c.in-Some.ensures.there, c.in-Some.ensures.fits));
}
