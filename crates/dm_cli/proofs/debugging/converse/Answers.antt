use Rattle.std.proofs.Common.{◌∙◌, ◌≡◌, arith, sym, false, true}
use Rattle.std.proofs.lemmas.Result.{err_from_is_err_and}
use Rattle.dm_cli.proofs.Conversations.{at_nothing, at_quit, at_fault, at_unanswered, at_answered, ends}
use Rattle.dm_cli.proofs.debugging.converse.Goals as goal
use Rattle.dm_cli.proofs.debugging.converse.Goals.{then-count-eq0-via-then-count-eq0, then-count-eq0-via-else-count-eq0+then-is_quit}

pub returns-in_err-count-clause-err : goal.returns-in_err-count-clause-err
returns-in_err-count-clause-err g c =
    let p = err_from_is_err_and c.from_residual.result c.from_residual.ensures.1 in
    rw (p.1, p.2) (at_fault _ _ c.loop-has_more.invariant.1 (rw c.loop-has_more-test.true at
    c.loop-has_more.invariant.0) _ _ _ c.in_err-count.ensures.fault)

pub returns-then-count-eq0-clause-ok : goal.returns-then-count-eq0-clause-ok
returns-then-count-eq0-clause-ok g c =
    let spoken = rw c.loop-has_more-test.true at c.loop-has_more.invariant.0 in
    elim c.then-count-eq0.branch [
      | then-count-eq0-via-then-count-eq0 w ↦ at_nothing _ _ c.loop-has_more.invariant.1 spoken _ _ _
          c.in_ok-count.ensures.line w.if-count-eq0.true
      | then-count-eq0-via-else-count-eq0+then-is_quit w ↦
          at_quit _ _ c.loop-has_more.invariant.1 spoken _ _ _ _ c.in_ok-count.ensures.line
          (c.as_slice-text.ensures.value ∙ c.drop_end-has_more.ensures.dropped)
          (w.is_quit.ensures.0 w.if-is_quit.true)
    ]

pub returns-in_err-answer_at_once-clause-err : goal.returns-in_err-answer_at_once-clause-err
returns-in_err-answer_at_once-clause-err g c =
    let p = err_from_is_err_and c.from_residual-in_err-answer_at_once.result
    c.from_residual-in_err-answer_at_once.ensures.1 in
    rw (p.1, p.2) (at_unanswered _ _ (rw c.loop-has_more-test.true at c.loop-has_more.invariant.0) _ _ _ _ _ _ _
    c.in_ok-count.ensures.line (omega (arith, c.if-count-eq0.false))
    (c.as_slice-text.ensures.value ∙ c.drop_end-has_more.ensures.dropped) (λ q. let u : false ≡ true =
    sym c.if-is_quit.false ∙ c.is_quit.ensures.1 q in cc)
    (rw c.loop-has_more.invariant.1 at c.in_err-answer_at_once.ensures.err))

pub loop-has_more-preserved : goal.loop-has_more-preserved
loop-has_more-preserved g c = (
  rw c.drop_end-has_more.ensures.had (at_answered 0 0 (rw c.loop-has_more-test.true at c.loop-has_more.invariant.0) _ _
      _ _ _ _ c.in_ok-count.ensures.line (omega (arith, c.if-count-eq0.false))
      (c.as_slice-text.ensures.value ∙ c.drop_end-has_more.ensures.dropped) (λ q. let u : false ≡ true =
      sym c.if-is_quit.false ∙ c.is_quit.ensures.1 q in cc)
      c.in_ok-answer_at_once.ensures.ok),
  c.in_ok-answer_at_once.ensures.no_failure ∙ c.loop-has_more.invariant.1,
)

pub returns-clause-ok : goal.returns-clause-ok
returns-clause-ok g c = ends _ _ c.loop-has_more.invariant.1 (rw c.loop-has_more-test.false at
    c.loop-has_more.invariant.0)
