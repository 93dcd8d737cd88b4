use Rattle.std.proofs.Common.{arith, ◌∙◌}
use Rattle.dm_console.proofs.writers.Writes.{Appends-further, count_after-taken, within_further}
use Rattle.dm_console.proofs.writers.writer.write_all.Goals as goal

pub loop-at-preserved : goal.loop-at-preserved
loop-at-preserved g c =
    let was = c.loop-at.invariant in
    let now = c.in-Ok.ensures in
    let some = c.in-Ok.n-test.1 in
    record {
      within = within_further _ _ _ c.loop-at-test.true now.bound;
      taken = Appends-further _ _ _ _ _ _ was.taken now.bytes;
      no_failure = now.failures ∙ count_after-taken _ _ _ some ∙ was.no_failure;
      untouched = λ h. absurd (some (omega (arith, h)));
    }
