use Rattle.std.proofs.Common.{arith, ◌∙◌}
use Rattle.std.proofs.lemmas.List.{length-set}
use Rattle.dm_host.proofs.Filled.{read_more, further}
use Rattle.dm_host.proofs.memory.read_each.Goals as goal

pub loop-place-preserved : goal.loop-place-preserved
loop-place-preserved c = record {
  read = rw c.peek.ensures (read_more c.args.machine.now.memory c.args.segment c.args.offset c.loop-place.place
      c.loop-place.at c.loop-place.buffer
      (search (arith, c.loop-place-test.true, c.loop-place.invariant.long)) c.loop-place.invariant.at_is
      c.loop-place.invariant.read);
  long = length-set c.loop-place.buffer c.loop-place.place c.peek.result ∙ c.loop-place.invariant.long;
  at_is = further c.loop-place.at c.args.offset c.loop-place.place c.loop-place.invariant.at_is;
}
