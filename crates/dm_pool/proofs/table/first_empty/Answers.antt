use Rattle.std.proofs.Common.{◌≡◌, sym, ap, ◌∙◌, get_or, None, inl, inr, arith}
use Rattle.dm_pool.proofs.Gaps.{below_or_not, first_at, first_none}
use Rattle.dm_pool.proofs.table.first_empty.Goals as goal

pub returns-in-None : goal.returns-in-None
returns-in-None c = record {
  first = sym (first_at c.args.places.now c.loop-i.i c.loop-i-test.true c.in-None.is
      c.loop-i.invariant);
  vacant = (c.loop-i-test.true, c.in-None.is);
}

pub loop-i-preserved : goal.loop-i-preserved
loop-i-preserved c = λ j lt. let i = c.loop-i.i in elim (below_or_not j i) [
  | inl h ↦ c.loop-i.invariant j h
  | inr h ↦ let same : j ≡ i = omega (arith, lt, h) in (
    c.in-Some.field-0,
    ap (λ k. get_or c.args.places.now k None) same ∙ c.in-Some.is,
  )
]

pub returns : goal.returns
returns c = record {
  first = sym (first_none c.args.places.now (λ j lt. c.loop-i.invariant j (omega (
    arith,
    lt,
    c.loop-i-test.false,
  ))));
  vacant = tt;
}
