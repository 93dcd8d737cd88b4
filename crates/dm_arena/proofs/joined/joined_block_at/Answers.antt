use Rattle.std.proofs.Common.{arith, rules}
use Rattle.dm_arena.proofs.Surveying.{open_start, open_more, close_last, close_taken}
use Rattle.dm_arena.proofs.joined.joined_block_at.Goals as goal
use Rattle.dm_arena.proofs.joined.joined_block_at.Goals.{then-listed-via-then-listed, then-listed-via-else-listed+then-not-is_free}

pub loop-listed-init : goal.loop-listed-init
loop-listed-init c = record {
  there = c.spelled_header-listed.ensures.there;
  fits = c.spelled_header-listed.ensures.fits;
  front = λ L s. open_start _ _ L _ (c.spelled_header-listed.ensures.front L s);
}

pub returns-then-listed-clause-front : goal.returns-then-listed-clause-front
returns-then-listed-clause-front c = λ L s. elim c.then-listed.branch [
  | then-listed-via-then-listed w ↦ close_last _ _ L _ _ w.if-listed.true (c.loop-listed.invariant.front L s)
  | then-listed-via-else-listed+then-not-is_free w ↦ close_taken _ _ L _ _ (search rules)
      (c.loop-listed.invariant.front L s)
]

pub loop-listed-preserved : goal.loop-listed-preserved
loop-listed-preserved c = record {
  there = c.loop-listed.invariant.there;
  fits = omega arith;
  front = λ L s. (let j = c.loop-listed.invariant.front L s in
      open_more _ _ L _ c.spelled_header-following.result _ j.0 j.1 c.if-listed.false (search rules) (search rules)
      (omega arith) _ c.next.ensures c.spelled_header-following.ensures.front);
}
