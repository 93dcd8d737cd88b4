use Rattle.std.proofs.Common.{None, Some, arith, refl}
use Rattle.dm_blocks.proofs.Cursors.{cursor-at, cursor-on, left-at, left-on, none-is, some-is}
use Rattle.dm_blocks.proofs.list.catch_up.Goals as goal

pub walk-preserved-then-listed : goal.walk-preserved-then-listed
walk-preserved-then-listed c =
    let e = c.spelled_header-listed.result in
    let is = none-is e _ c.if-listed.true in
    record {
      left = left-on _ _ e c.spelled_header-listed.ensures.there c.spelled_header-listed.ensures.front None _ refl is
          (left-at _ _ _ c.in-Some.is c.walk.invariant.left);
      passes = λ F k. cursor-on _ _ e c.spelled_header-listed.ensures.there c.spelled_header-listed.ensures.front None _
          refl is F _ (omega arith) (cursor-at _ F _ _ _ c.in-Some.is (c.walk.invariant.passes F k));
    }

pub walk-preserved : goal.walk-preserved
walk-preserved c =
    let e = c.spelled_header-listed.result in
    let is = some-is e c.next.result c.if-listed.false in
    record {
      left = left-on _ _ e c.spelled_header-listed.ensures.there c.spelled_header-listed.ensures.front
          (Some c.next.result) _ c.next.ensures is (left-at _ _ _ c.in-Some.is c.walk.invariant.left);
      passes = λ F k. cursor-on _ _ e c.spelled_header-listed.ensures.there c.spelled_header-listed.ensures.front
          (Some c.next.result) _ c.next.ensures is F _ (omega arith) (cursor-at _ F _ _ _ c.in-Some.is
          (c.walk.invariant.passes F k));
    }
