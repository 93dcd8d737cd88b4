use Rattle.std.proofs.Common.{arith, sym, ◌∙◌}
use Rattle.dm_blocks.proofs.Finding.{no_end, seeking_more}
use Rattle.dm_blocks.proofs.list.before_link.Goals as goal

pub returns-then-listed-clause-found : goal.returns-then-listed-clause-found
returns-then-listed-clause-found c = λ L s.
    (let k = c.walk.invariant.seeking L s in
    let f = c.spelled_header-listed.ensures.front k.1 k.2.spelled in
    no_end _ L _ _ c.spelled_header-listed.result k.0 k.1 k.2 f.0 f.1 (λ q. c.if-next.false (c.next.ensures
    ∙ q)) c.if-listed.true)

pub walk-preserved : goal.walk-preserved
walk-preserved c = record {
  small = omega arith;
  seeking = λ L s.
      (let k = c.walk.invariant.seeking L s in
      let f = c.spelled_header-listed.ensures.front k.1 k.2.spelled in
      seeking_more _ L _ _ c.spelled_header-listed.result k.0 k.1 k.2 f.0 f.1 (λ q. c.if-next.false (c.next.ensures
      ∙ q)) c.if-listed.false _ c.next-here.ensures);
}
