use Rattle.std.proofs.Common.{[], arith, refl, sym, subst}
use Rattle.dm_blocks.specs.Listing.{Leads}
use Rattle.dm_blocks.proofs.Finding.{found_none, finding_more}
use Rattle.dm_blocks.proofs.LowPart.{leads-first, stands-up}
use Rattle.dm_blocks.proofs.low.find_low.Goals as goal

pub walk-init : goal.walk-init
walk-init c = record {
  small = omega arith;
  led = ([], leads-first _);
  finding = λ L s. (
    [],
    L,
    record { spelled = s; is = refl; none = λ h w. absurd w },
  );
}

pub returns-then-listed-clause-found : goal.returns-then-listed-clause-found
returns-then-listed-clause-found c = λ L s.
    (let k = c.walk.invariant.finding L s in
    let f = c.in-Some.ensures.front k.1 k.2.spelled in
    found_none _ L _ _ c.in-Some.listed c.in-Some.ensures.there k.0 k.1 k.2 f.0 f.1 c.if-here-segment.false
    c.if-listed.true)

pub walk-preserved : goal.walk-preserved
walk-preserved c =
    let u = c.walk.invariant.led in
    let more = stands-up _ _ _ c.if-listed.false (c.in-Some.ensures.proceeds u.0 u.1) in
    record {
      small = omega arith;
      led = (more.0, subst (λ t. Leads c.args.space.now.memory [] 0x100 more.0 t) (sym c.next-here.ensures) more.1);
      finding = λ L s.
          (let k = c.walk.invariant.finding L s in
          let f = c.in-Some.ensures.front k.1 k.2.spelled in
          finding_more _ L _ _ c.in-Some.listed c.in-Some.ensures.there k.0 k.1 k.2 f.0 f.1 c.if-here-segment.false
          c.if-listed.false _ c.next-here.ensures);
    }
