use Rattle.std.proofs.Common.{◌-◌, ◌≤◌}
use Rattle.dm_blocks.specs.Chain.{next}
use Rattle.dm_blocks.specs.Listing.{StandsAfter}
use Rattle.dm_blocks.proofs.low.is_whole_after.Given as goal

abbrev pub invariant-walk : goal.invariant-walk
invariant-walk l = record {
  fits : next l.passed.header ≤ 0xFFFF;
  stands : StandsAfter l.space.memory l.passed.last (next l.passed.header);
}

abbrev pub decreases-walk : goal.decreases-walk
decreases-walk l = 0x10000 - next l.passed.header
