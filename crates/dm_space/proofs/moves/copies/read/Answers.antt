use Rattle.std.proofs.Common.{◌+◌, ap, ◌∙◌, arith}
use Rattle.dm_space.specs.Memory.{Held}
use Rattle.dm_space.specs.moves.inner.Copying.{read_in}
use Rattle.dm_space.proofs.moves.Stretches.{read-more}
use Rattle.dm_space.proofs.moves.copies.read.Goals as goal

pub loop-done-preserved : goal.loop-done-preserved
loop-done-preserved c =
    let a = c.args in let done = c.loop-done.done in let count = c.stretch_len-count.result in
    record {
      within = omega (arith, c.loop-done.invariant.within, c.stretch_len-count.ensures.left);
      copied = c.read_stretch.ensures ∙ ap (λ (h : Held). read_in h a.span.now done (a.at + done) count)
          c.loop-done.invariant.copied
          ∙ read-more a.space.now a.span.now a.at done count (omega (
            arith,
            c.requires.scratch,
            c.loop-done.invariant.within,
            c.stretch_len-count.ensures.left,
            c.a20-sizes.ensures.held.scratch_length,
          ));
    }
