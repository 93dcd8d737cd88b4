use Rattle.std.proofs.Common.{ℕ, ◌-◌, ◌*◌, ◌%◌, ◌<◌, ◌⊎◌, inl, inr, List, refl, ◌∙◌, ap, arith}
use Rattle.dm_checker.specs.inner.ArenaCopy.{contents_by}
use Rattle.dm_checker.proofs.Framed.{kept_outside, kept_nothing, kept_freed, kept_page, window_of, no_block, not_live}
use Rattle.dm_checker.proofs.headers.kept_of.Goals as goal
use Rattle.dm_checker.proofs.headers.kept_of.Goals.{then-segment-lt-FRAME-via-then-segment-lt-FRAME, then-segment-lt-FRAME-via-else-segment-lt-FRAME+then-segment-gt-FRAME_END}

pub returns-then-segment-lt-FRAME : goal.returns-then-segment-lt-FRAME
returns-then-segment-lt-FRAME c = λ S e.
    (let far : (c.args.segment < 0xE000) ⊎ (0xEFFF < c.args.segment) = elim c.then-segment-lt-FRAME.branch [
      | then-segment-lt-FRAME-via-then-segment-lt-FRAME w ↦ inl (omega (arith, w.if-segment-lt-FRAME.true))
      | then-segment-lt-FRAME-via-else-segment-lt-FRAME+then-segment-gt-FRAME_END w ↦
          inr (omega (arith, w.if-segment-gt-FRAME_END.true))
    ] in
    kept_outside S c.args.space.now.memory c.args.segment c.contents_of.result far
    (c.contents_of.ensures _ _ c.bits_at.ensures))

pub returns-in_default : goal.returns-in_default
returns-in_default c = λ S e. kept_nothing S c.args.space.now.memory c.args.segment _ c.if-segment-lt-FRAME.false
    c.if-segment-gt-FRAME_END.false (window_of S c.args.windows.now _ _ _ e c.type_inv.windows (omega arith)
    (no_block _ c.in_default.not-Some)) refl

pub returns-then-not-has : goal.returns-then-not-has
returns-then-not-has c = λ S e. kept_freed S c.args.space.now.memory c.args.segment c.in-Some.block
    c.if-segment-lt-FRAME.false c.if-segment-gt-FRAME_END.false (window_of S c.args.windows.now _ _ _ e
    c.type_inv.windows (omega arith) c.in-Some.is) (not_live c.has.result _ c.if-not-has.true c.has.ensures.1)

pub returns : goal.returns
returns c = λ S e. kept_page S c.args.space.now.memory c.args.segment c.in-Some.block c.contents_in.result
    c.if-segment-lt-FRAME.false c.if-segment-gt-FRAME_END.false (window_of S c.args.windows.now _ _ _ e
    c.type_inv.windows (omega arith) c.in-Some.is) (c.has.ensures.0 c.if-not-has.false) (c.contents_in.ensures
    ∙ ap (λ (bytes : List ℕ). contents_by bytes ((c.args.segment - 0xE000) % 0x400 * 16)) c.bytes.ensures)
