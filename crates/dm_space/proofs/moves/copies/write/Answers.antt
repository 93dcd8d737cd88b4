use Rattle.std.proofs.Common.{◌+◌, ap, ◌∙◌, sym, subst, arith}
use Rattle.dm_region.specs.Parts.{part}
use Rattle.dm_space.specs.Memory.{Held}
use Rattle.dm_space.specs.moves.inner.Copying.{written_out}
use Rattle.dm_space.specs.moves.Spans.{IsInside}
use Rattle.dm_space.proofs.moves.Inside.{inside-less, inside-shaped}
use Rattle.dm_space.proofs.moves.Shapes.{stored-shaped}
use Rattle.dm_space.proofs.moves.Stretches.{write-more}
use Rattle.dm_space.proofs.moves.copies.write.Goals as goal

pub write_stretch-requires-clause-inside : goal.write_stretch-requires-clause-inside
write_stretch-requires-clause-inside c =
    let a = c.args in let h = a.space.now in let r = a.span.now in
    let done = c.loop-done.done in let count = c.stretch_len-count.result in
    let then = inside-less _ r (done + count) a.len (omega (
      arith,
      c.loop-done.invariant.within,
      c.stretch_len-count.ensures.left,
    )) (inside-shaped h.memory _ r a.len (stored-shaped h.memory r 0
    (part h.scratch a.at done)) c.requires.inside) in
    subst (λ (g : Held). IsInside g.memory r (done + count)) (sym c.loop-done.invariant.copied) then

pub loop-done-preserved : goal.loop-done-preserved
loop-done-preserved c =
    let a = c.args in let done = c.loop-done.done in let count = c.stretch_len-count.result in
    record {
      within = omega (arith, c.loop-done.invariant.within, c.stretch_len-count.ensures.left);
      copied = c.write_stretch.ensures ∙ ap (λ (h : Held). written_out h a.span.now done (a.at + done) count)
          c.loop-done.invariant.copied
          ∙ write-more a.space.now a.span.now a.at done count (omega (
            arith,
            c.requires.scratch,
            c.loop-done.invariant.within,
            c.a20-sizes.ensures.held.scratch_length,
          ));
    }
