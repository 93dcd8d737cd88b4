use Rattle.std.proofs.Common.{refl, arith}
use Rattle.dm_target.proofs.LastHits.{clear_more, hit_in}
use Rattle.dm_target.proofs.returning.seek.Goals as goal

pub loop-low-preserved-in-None : goal.loop-low-preserved-in-None
loop-low-preserved-in-None c =
    let before = c.in_ok-from.ensures.before in
    let within = c.loop-low.invariant.within in
    record {
      since = c.loop-low.invariant.since;
      within = omega (arith, before, within);
      clear = clear_more _ _ _ _ _ c.in_ok-from.found c.in-None.is c.in_ok-from.ensures.shows
          c.loop-low.invariant.clear;
      known = c.loop-low.invariant.known;
    }

pub loop-low-preserved-then-found : goal.loop-low-preserved-then-found
loop-low-preserved-then-found c =
    let h = hit_in c.args.points.now c.args.watches.now c.args.history.now c.in_ok-from.from c.loop-low.end
    c.in_ok-from.found c.in-Some.found c.in-Some.is c.in_ok-from.ensures.shows c.loop-low.invariant.clear in
    let low = h.since in
    let high = h.before in
    let from = c.in_ok-from.ensures.since in
    let wish = c.begin-wish.ensures.since in
    let since = c.loop-low.invariant.since in
    let within = c.loop-low.invariant.within in
    record {
      since = omega (arith, low, from, wish, since);
      within = omega (arith, high, within);
      clear = h.clear c.if-found.true;
      known = (refl, omega (arith, low, from, wish, since), omega (arith, high, within), h.met);
    }
