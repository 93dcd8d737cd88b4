use Rattle.std.proofs.Common.{◌-◌, ◌≤◌, List, []}
use Rattle.dm_blocks.specs.declared.header.Header.{Header}
use Rattle.dm_blocks.specs.Reading.{IsSpelledFrom}
use Rattle.dm_blocks.specs.Listing.{Leads}
use Rattle.dm_blocks.specs.inner.Reading.{IsFinding}
use Rattle.dm_blocks.proofs.low.find_low.Given as goal

abbrev pub invariant-walk : goal.invariant-walk
invariant-walk l = record {
  small : l.here ≤ 0xFFFF;
  led : (P : List Header) × Leads l.space.memory [] 0x100 P l.here;
  finding : (L : List Header) → IsSpelledFrom l.space.memory 0x100 L → (P : List Header) × (K : List Header) ×
      IsFinding l.space.memory L l.segment l.here P K;
}

abbrev pub decreases-walk : goal.decreases-walk
decreases-walk l = 0x10000 - l.here
