use Rattle.std.proofs.Common.{◌-◌, ◌≡◌, List}
use Rattle.dm_blocks.specs.declared.header.Header.{Header}
use Rattle.dm_blocks.specs.Chain.{IsArena, IsNonEmpty}
use Rattle.dm_arena.specs.inner.Walks.{IsReleasing}
use Rattle.dm_arena.proofs.owned.release.Given as goal

abbrev pub invariant-walk : goal.invariant-walk
invariant-walk l = record {
  list : (L : List Header) → IsArena l.initial.space.memory l.first L → (P : List Header) × (K : List Header) ×
      IsNonEmpty K × IsReleasing l.initial.space.memory l.first l.owner L l.space.memory l.here P K;
  scratch : l.space.scratch ≡ l.initial.space.scratch;
}

abbrev pub decreases-walk : goal.decreases-walk
decreases-walk l = 0x10000 - l.here
