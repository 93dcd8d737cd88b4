use Rattle.std.proofs.Common.{arith, rules}
use Rattle.dm_proc.proofs.Bytes.{read-more}
use Rattle.dm_proc.proofs.environment.read_environment.Goals as goal

pub loop-at-preserved : goal.loop-at-preserved
loop-at-preserved c = record {
  memory = cc;
  read = read-more _ _ _ _ _ _ _ c.loop-at.invariant.memory (omega arith) c.peek-byte.ensures c.loop-at.invariant.read
      c.append.ensures.scratch;
  none = search rules;
  start = search rules;
  middle = search rules;
}
