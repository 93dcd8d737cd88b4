use Rattle.std.proofs.Common.{◌-◌, ◌≡◌, ◌≤◌, List}
use Rattle.dm_blocks.specs.declared.header.Header.{Header}
use Rattle.dm_blocks.specs.Chain.{next}
use Rattle.dm_blocks.specs.Reading.{IsSpelledFrom}
use Rattle.dm_arena.specs.inner.Walks.{IsJoining}
use Rattle.dm_arena.proofs.joined.joined_at.Given as goal

abbrev pub invariant-loop-listed : goal.invariant-loop-listed
invariant-loop-listed l = record {
  there : l.listed.header.segment ≡ l.segment;
  fits : next l.listed.header ≤ 0xFFFF;
  front : (L : List Header) → IsSpelledFrom l.space.memory l.segment L → (K : List Header) ×
      IsJoining l.upper l.space.memory L l.listed K;
}

abbrev pub decreases-loop-listed : goal.decreases-loop-listed
decreases-loop-listed l = 0x10000 - next l.listed.header
