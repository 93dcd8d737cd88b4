use Rattle.std.proofs.Common.{◌-◌, ◌≤◌, List}
use Rattle.dm_blocks.specs.declared.header.Header.{Header}
use Rattle.dm_blocks.specs.Chain.{next}
use Rattle.dm_arena.specs.inner.Walks.{IsGrowable, IsGrown}
use Rattle.dm_arena.proofs.owned.grow.Given as goal

abbrev pub invariant-walk : goal.invariant-walk
invariant-walk l = record {
  fits : next l.grown.header ≤ 0xFFFF;
  grown : (K : List Header) → IsGrowable l.space.memory l.fn.listed K → (R : List Header) × (Q : List Header) ×
      IsGrown l.upper l.space.memory l.fn.listed K l.grown R Q;
}

abbrev pub decreases-walk : goal.decreases-walk
decreases-walk l = 0x10000 - next l.grown.header
