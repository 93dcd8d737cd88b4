use Rattle.std.proofs.Common.{arith, ◌∙◌}
use Rattle.std.proofs.lemmas.List.{length-set}
use Rattle.dm_host.proofs.Reached.{one_more}
use Rattle.dm_host.proofs.linear.read_up.Goals as goal

pub loop-place-preserved : goal.loop-place-preserved
loop-place-preserved c = record {
  read = rw c.byte_at.ensures (one_more c.args.machine.now.memory c.args.address c.loop-place.place c.loop-place.at
      c.loop-place.buffer
      (search (arith, c.loop-place-test.true, c.loop-place.invariant.long)) c.loop-place.invariant.at_is
      c.loop-place.invariant.read);
  long = length-set c.loop-place.buffer c.loop-place.place c.byte_at.result ∙ c.loop-place.invariant.long;
  at_is = search (arith, c.saturating_add-at.ensures, c.loop-place.invariant.at_is);
}
