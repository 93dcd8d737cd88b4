use Rattle.std.proofs.Common.{◌≡◌, replicate}
use Rattle.dm_region.specs.inner.Lends.{spliced}
use Rattle.dm_region.proofs.filling.put_zeros.Given as goal

abbrev pub invariant-loop-i : goal.invariant-loop-i
invariant-loop-i l = record {
  at : l.cells.at ≡ l.initial.cells.at;
  slots : l.cells.slots ≡ spliced l.initial.cells.slots l.first l.i (replicate l.i 0);
}
