use Rattle.std.proofs.Common.{arith}
use Rattle.dm_history.specs.Becomes.{start}
use Rattle.dm_target.proofs.LastHits.{begun_at, none_after, left_at, whole_at}
use Rattle.dm_target.proofs.returning.survey.Goals as goal

pub loop-init : goal.loop-init
loop-init c = record {
  before = c.requires;
  parts = λ r. (
    start,
    begun_at _ _ _ _ _ _ c.requires c.stand-last.ensures,
    none_after _,
  );
}

pub returns-then-is_whole : goal.returns-then-is_whole
returns-then-is_whole c = λ r.
    let p = c.loop.invariant.parts r in
    whole_at _ _ _ _ _ _ _ _ c.found_with.ensures c.if-is_whole.true
    (c.in_ok-found.ensures.looked c.args.branch.now.machine p.0 r p.1)

pub returns : goal.returns
returns c = λ r.
    let p = c.loop.invariant.parts r in
    left_at _ _ _ _ _ _ _ _ c.found_with-2.ensures (omega (arith, c.loop-test.false))
    (omega arith) p.2 c.loop.invariant.before p.0 p.1
