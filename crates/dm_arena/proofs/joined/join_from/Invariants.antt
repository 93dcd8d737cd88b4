use Rattle.std.proofs.Common.{◌-◌, ◌≡◌, List}
use Rattle.dm_blocks.specs.declared.header.Header.{Header}
use Rattle.dm_blocks.specs.Chain.{first_header, IsArena, IsNonEmpty}
use Rattle.dm_arena.specs.inner.Walks.{IsJoiningAll}
use Rattle.dm_arena.proofs.joined.join_from.Given as goal

abbrev pub invariant-walk : goal.invariant-walk
invariant-walk l = record {
  list : (L : List Header) → IsArena l.initial.space.memory first_header L → (done : List Header) × (K : List Header) ×
      IsNonEmpty K × IsJoiningAll l.upper l.initial.space.memory first_header L l.space.memory l.segment done K;
  scratch : l.space.scratch ≡ l.initial.space.scratch;
}

abbrev pub decreases-walk : goal.decreases-walk
decreases-walk l = 0x10000 - l.segment
