-- The free list, as private contracts and proofs speak of it.
use Rattle.std.specs.Prelude.{ℕ, ◌+◌, ◌-◌, ◌*◌, ◌<◌, ◌≤◌, ◌≡◌, ◌⊎◌, true, get_or, Option, Some, None, List, [], ◌∷◌}
use Rattle.dm_region.specs.Parts.{part}
use Rattle.dm_pool.specs.declared.extent.Extent.{Extent}
use Rattle.dm_pool.specs.Blocks.{IsPool}
use Rattle.dm_pool.specs.Gaps.{Gap, is_clear}
use Rattle.dm_pool.specs.inner.Gaps.{AreGaps}
use Rattle.dm_pool.specs.FreeList.{Spells, AreBased}

-- the N bytes from byte P of the pool on touch none of the first 8 bytes of any of the gaps
abbrev pub Away : ℕ → ℕ → List Gap → Type 0
Away P N [] = Unit {0}
Away P N (g ∷ gs) = ((g.low * 1024 + 8 ≤ P) ⊎ (P + N ≤ g.low * 1024)) × Away P N gs

-- ys differs from xs in no byte but the N bytes from P on
abbrev pub IsKeptOutside : List ℕ → ℕ → ℕ → List ℕ → Type 0
IsKeptOutside xs P N ys = (Q M : ℕ) → (Q + M ≤ P) ⊎ (P + N ≤ Q) → part ys Q M ≡ part xs Q M

-- b is the place of the highest block below the unit `end`, or a place of no unit at 0 if there is none; the units from
-- its end up to `end` are free
pub record IsBelow (places : List (Option Extent)) (end : ℕ) (b : Extent) : Type 0 where
  pub edge : b.base + b.units ≤ end
  pub free : is_clear places (b.base + b.units) (end - (b.base + b.units)) ≡ true
  pub there : ((b.base ≡ 0) × (b.units ≡ 0)) ⊎ ((0 < b.units) × ((i : ℕ) × (get_or places i None ≡ Some b)))

-- the bytes xs of a pool list its gaps from the unit `from` on, and the first of these begins at the unit `first`,
-- FFFFFFFFh if there is none
pub record Tells (places : List (Option Extent)) (units from first : ℕ) (xs : List ℕ) : Type 0 where
  pub listed : List Gap
  pub gaps : AreGaps places units from listed
  pub told : Spells xs first listed

-- a pool whose free bytes list all its gaps, the first of which begins at the unit `first`, FFFFFFFFh if there is none
pub record IsTold (units : ℕ) (places : List (Option Extent)) (bytes : List ℕ) (first : ℕ) : Type 0 where
  pub pool : IsPool units places bytes
  pub based : AreBased places
  pub tells : Tells places units 0 first bytes
