use Rattle.std.proofs.Common.{◌+◌, ap, ◌∙◌, arith}
use Rattle.dm_space.specs.Copies.{copied_in}
use Rattle.dm_space.specs.Memory.{Held}
use Rattle.dm_space.proofs.Copies.{in-more}
use Rattle.dm_space.proofs.space.Space.copy_in.Goals as goal

pub loop-done-preserved : goal.loop-done-preserved
loop-done-preserved c =
    let done = c.loop-done.done in let count = c.stretch_len-count.result in
    record {
      within = omega (arith, c.loop-done.invariant.within, c.stretch_len-count.ensures.left);
      copied = c.copy_stretch_in.ensures ∙ ap (λ (h : Held). copied_in h (c.args.linear + done)
          (c.args.at + done) count)
          c.loop-done.invariant.copied
          ∙ in-more c.args.self.now c.args.linear c.args.at done count (omega (
            arith,
            c.requires.scratch,
            c.loop-done.invariant.within,
            c.stretch_len-count.ensures.left,
            c.a20-sizes.ensures.held.scratch_length,
          ));
    }
