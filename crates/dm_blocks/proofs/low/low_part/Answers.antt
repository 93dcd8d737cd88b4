use Rattle.std.proofs.Common.{◌∙◌, List, [], arith, subst, sym}
use Rattle.dm_blocks.specs.declared.header.Header.{Header}
use Rattle.dm_blocks.specs.inner.Low.{IsUpTo}
use Rattle.dm_blocks.proofs.LowPart.{at-first, none-behind, whole, one-more}
use Rattle.dm_blocks.proofs.low.low_part.Goals as goal

pub walk-init : goal.walk-init
walk-init c = record { small = omega arith; led = ([], at-first _) }

pub returns-in_default : goal.returns-in_default
returns-in_default c = let u = c.walk.invariant.led in none-behind _ u.0 _ u.1 c.in_default.ensures

pub returns-then-listed : goal.returns-then-listed
returns-then-listed c =
    let u = c.walk.invariant.led in let x = c.in-Some.ensures in
    whole _ u.0 _ u.1 (omega arith) c.in-Some.listed x.0 x.1 c.if-listed.true

pub walk-preserved : goal.walk-preserved
walk-preserved c =
    let u = c.walk.invariant.led in let x = c.in-Some.ensures in
    let more = one-more _ u.0 _ u.1 (omega arith) c.in-Some.listed x.0 x.1 c.if-listed.false in
    record {
      small = omega arith;
      led = (more.0, subst (λ t. IsUpTo c.args.space.now.memory more.0 t) (sym c.next-here.ensures) more.1);
    }
