use Rattle.std.proofs.Common.{◌-◌, ◌≤◌, List}
use Rattle.dm_blocks.specs.declared.header.Header.{Header}
use Rattle.dm_blocks.specs.Chain.{first_header, link_header}
use Rattle.dm_blocks.specs.Reading.{IsSpelledFrom}
use Rattle.dm_blocks.specs.inner.Reading.{IsSeeking}
use Rattle.dm_blocks.proofs.list.before_link.Given as goal

abbrev pub invariant-walk : goal.invariant-walk
invariant-walk l = record {
  small : l.here ≤ 0xFFFF;
  seeking : (L : List Header) → IsSpelledFrom l.space.memory first_header L → (P : List Header) × (K : List Header) ×
      IsSeeking l.space.memory L link_header l.here P K;
}

abbrev pub decreases-walk : goal.decreases-walk
decreases-walk l = 0x10000 - l.here
