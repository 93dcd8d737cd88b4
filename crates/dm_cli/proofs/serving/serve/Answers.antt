use Rattle.std.proofs.Common.{◌∙◌, arith, refl, sym}
use Rattle.std.proofs.lemmas.Result.{err_from_is_err_and}
use Rattle.dm_cli.proofs.Served.{at_byte, at_close, at_end, at_fault, at_most, begun, taken}
use Rattle.dm_cli.proofs.serving.serve.Goals as goal

pub loop-init : goal.loop-init
loop-init g c = record { heard = begun _ _ _ _; none_failed = refl }

pub returns-then-is_over : goal.returns-then-is_over
returns-then-is_over g c = at_close 18446744073709551615 (omega (arith, c.loop-test.true)) c.loop.invariant.heard _ _
    c.loop.invariant.none_failed (sym c.is_over.ensures ∙ c.if-is_over.true)

pub returns-in_err-byte : goal.returns-in_err-byte
returns-in_err-byte g c =
    let p = err_from_is_err_and c.from_residual.result c.from_residual.ensures.1 in
    rw (p.1, p.2) (at_fault 18446744073709551615 (omega (arith, c.loop-test.true)) c.loop.invariant.heard _ _
    c.loop.invariant.none_failed (sym c.is_over.ensures ∙ c.if-is_over.false) _
    c.in_err-byte.ensures.fault)

pub returns-in_default : goal.returns-in_default
returns-in_default g c = at_end 18446744073709551615 (omega (arith, c.loop-test.true)) c.loop.invariant.heard _ _
    c.loop.invariant.none_failed (sym c.is_over.ensures ∙ c.if-is_over.false)
    (g.R.Read.remaining c.next_byte.new.requests) (rw c.in_default.is at c.in_ok-byte.ensures.byte)

pub returns-in_err-take_byte : goal.returns-in_err-take_byte
returns-in_err-take_byte g c =
    let p = err_from_is_err_and c.from_residual-in_err-take_byte.result c.from_residual-in_err-take_byte.ensures.1 in
    rw (p.1, p.2) (at_byte 18446744073709551615 (omega (arith, c.loop-test.true)) c.loop.invariant.heard _ _
    (sym c.is_over.ensures ∙ c.if-is_over.false) (omega (arith, c.loop-test.true)) c.in-Some.byte _ _ _
    (rw c.in-Some.is at c.in_ok-byte.ensures.byte) (rw c.loop.invariant.none_failed at c.in_err-take_byte.ensures.err))

pub loop-preserved : goal.loop-preserved
loop-preserved g c = record {
  heard = taken c.loop.invariant.heard (sym c.is_over.ensures ∙ c.if-is_over.false) c.in-Some.byte _ _ _
      (rw c.in-Some.is at c.in_ok-byte.ensures.byte) c.in_ok-take_byte.ensures.ok;
  none_failed = c.in_ok-take_byte.ensures.no_failure ∙ c.loop.invariant.none_failed;
}

pub returns : goal.returns
returns g c = at_most 18446744073709551615 (omega (arith, c.loop-test.false)) c.loop.invariant.heard _ _
    c.loop.invariant.none_failed (omega (arith, c.loop-test.false))
