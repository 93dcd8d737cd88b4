use Rattle.std.proofs.Common.{◌+◌, ap, ◌∙◌, arith}
use Rattle.dm_space.specs.Copies.{copied_out}
use Rattle.dm_space.specs.Memory.{Held}
use Rattle.dm_space.proofs.Copies.{out-more}
use Rattle.dm_space.proofs.space.Space.copy_out.Goals as goal

pub loop-done-preserved : goal.loop-done-preserved
loop-done-preserved c =
    let done = c.loop-done.done in let count = c.stretch_len-count.result in
    record {
      within = omega (arith, c.loop-done.invariant.within, c.stretch_len-count.ensures.left);
      copied = c.copy_stretch_out.ensures ∙ ap (λ (h : Held). copied_out h (c.args.at + done)
          (c.args.linear + done) count)
          c.loop-done.invariant.copied
          ∙ out-more c.args.self.now c.args.linear c.args.at done count (omega (
            arith,
            c.requires.scratch,
            c.loop-done.invariant.within,
            c.stretch_len-count.ensures.left,
            c.a20-sizes.ensures.held.scratch_length,
          ));
    }
