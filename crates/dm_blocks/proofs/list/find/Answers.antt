use Rattle.std.proofs.Common.{arith}
use Rattle.dm_blocks.proofs.Finding.{found_block, found_none, finding_more}
use Rattle.dm_blocks.proofs.list.find.Goals as goal

pub returns-then-here-segment-clause-found : goal.returns-then-here-segment-clause-found
returns-then-here-segment-clause-found c = λ L s.
    (let k = c.walk.invariant.finding L s in
    let f = c.spelled_header-listed.ensures.front k.1 k.2.spelled in
    found_block _ L _ _ c.spelled_header-listed.result c.spelled_header-listed.ensures.there k.0 k.1 k.2 f.0 f.1
    c.if-here-segment.true)

pub returns-then-listed-clause-found : goal.returns-then-listed-clause-found
returns-then-listed-clause-found c = λ L s.
    (let k = c.walk.invariant.finding L s in
    let f = c.spelled_header-listed.ensures.front k.1 k.2.spelled in
    found_none _ L _ _ c.spelled_header-listed.result c.spelled_header-listed.ensures.there k.0 k.1 k.2 f.0 f.1
    c.if-here-segment.false c.if-listed.true)

pub walk-preserved : goal.walk-preserved
walk-preserved c = record {
  small = omega arith;
  finding = λ L s.
      (let k = c.walk.invariant.finding L s in
      let f = c.spelled_header-listed.ensures.front k.1 k.2.spelled in
      finding_more _ L _ _ c.spelled_header-listed.result c.spelled_header-listed.ensures.there k.0 k.1 k.2 f.0 f.1
      c.if-here-segment.false c.if-listed.false _ c.next-here.ensures);
}
