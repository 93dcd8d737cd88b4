use Rattle.std.proofs.Common.{◌≡◌}
use Rattle.dm_region.specs.Parts.{with_part}
use Rattle.dm_space.specs.Copies.{values}
use Rattle.dm_space.specs.Rom.{rom}
use Rattle.dm_space.proofs.rom.read_each.Given as goal

abbrev pub invariant-loop-i : goal.invariant-loop-i
invariant-loop-i l = l.bytes ≡ with_part l.fn.bytes l.at l.i (values rom l.offset l.i)
