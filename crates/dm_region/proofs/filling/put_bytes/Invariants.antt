use Rattle.std.proofs.Common.{◌≡◌, take}
use Rattle.dm_region.specs.inner.Lends.{spliced}
use Rattle.dm_region.proofs.filling.put_bytes.Given as goal

abbrev pub invariant-loop-i : goal.invariant-loop-i
invariant-loop-i l = record {
  at : l.cells.at ≡ l.initial.cells.at;
  slots : l.cells.slots ≡ spliced l.initial.cells.slots l.first l.i (take l.i l.bytes);
}
