use Rattle.std.proofs.Common.{arith, rules}
use Rattle.dm_arena.proofs.Growing.{grown_start, grown_more, grown_before_taken}
use Rattle.dm_arena.proofs.owned.grow.Goals as goal

pub walk-init : goal.walk-init
walk-init c = record { fits = c.requires.fits; grown = λ K g. grown_start _ _ _ K g }

pub returns-then-not-is_free-clause-grown : goal.returns-then-not-is_free-clause-grown
returns-then-not-is_free-clause-grown c = λ K g.
    (let r = c.walk.invariant.grown K g in (
      r.0,
      r.1,
      r.2,
      grown_before_taken _ _ _ K _ c.spelled_header-after.result r.0 r.1 r.2 (search
          rules) _ c.next.ensures c.spelled_header-after.ensures.front,
    ))

pub walk-preserved : goal.walk-preserved
walk-preserved c = record {
  fits = omega arith;
  grown = λ K g.
      (let r = c.walk.invariant.grown K g in
      grown_more _ _ _ K _ c.spelled_header-after.result r.0 r.1 r.2 c.if-grown.false (search rules)
      (omega arith) _ c.next.ensures c.spelled_header-after.ensures.front);
}
