use Rattle.std.proofs.Common.{◌≡◌, ◌-◌, ◌≤◌, length}
use Rattle.dm_origins.specs.inner.Chunks.{freed_by}
use Rattle.dm_origins.specs.inner.Freed.{within, Frees}
use Rattle.dm_origins.proofs.chunks.Chunks.set.Given as goal

abbrev pub invariant-loop-at : goal.invariant-loop-at
invariant-loop-at l = record {
  from : l.first ≤ l.at;
  to : l.at ≤ l.end;
  most : l.end ≤ 0x10000;
  wholes : length l.self-inside.wholes.items ≡ 256;
  each : length l.self-inside.each.items ≡ 0x10000;
  frees : Frees (within l.first l.at) l.origin l.fn.self (freed_by l.self-inside.wholes.items l.self-inside.each.items);
}

abbrev pub decreases-loop-at : goal.decreases-loop-at
decreases-loop-at l = l.end - l.at
