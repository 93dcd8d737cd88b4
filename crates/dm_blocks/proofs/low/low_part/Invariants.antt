use Rattle.std.proofs.Common.{◌-◌, ◌≤◌, List}
use Rattle.dm_blocks.specs.declared.header.Header.{Header}
use Rattle.dm_blocks.specs.inner.Low.{IsUpTo}
use Rattle.dm_blocks.proofs.low.low_part.Given as goal

abbrev pub invariant-walk : goal.invariant-walk
invariant-walk l = record {
  small : l.here ≤ 0xFFFF;
  led : (P : List Header) × IsUpTo l.space.memory P l.here;
}

abbrev pub decreases-walk : goal.decreases-walk
decreases-walk l = 0x10000 - l.here
