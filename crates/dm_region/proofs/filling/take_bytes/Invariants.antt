use Rattle.std.proofs.Common.{◌≡◌}
use Rattle.dm_region.specs.inner.Places.{emptied}
use Rattle.dm_region.proofs.filling.take_bytes.Given as goal

abbrev pub invariant-loop-i : goal.invariant-loop-i
invariant-loop-i l = record {
  at : l.cells.at ≡ l.initial.cells.at;
  slots : l.cells.slots ≡ emptied l.initial.cells.slots l.first l.i;
}
