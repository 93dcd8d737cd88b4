-- The table of a pool, with its blocks in the order in which they lie, as private contracts and proofs speak of it.
use Rattle.std.specs.Prelude.{ℕ, ◌+◌, ◌*◌, ◌<◌, ◌≤◌, ◌≡◌, Bool, false, List, length, get_or, nat_lt, count_by, replicate, [], Option, Some, None}
use Rattle.dm_pool.specs.declared.extent.Extent.{Extent}
use Rattle.dm_pool.specs.Blocks.{Blocks, IsLaid, contents_of}
use Rattle.dm_pool.specs.FreeList.{AreBased}
use Rattle.dm_pool.specs.inner.FreeList.{Tells}

-- a table: the units of the pool, the places of the blocks by number, the numbers of those that have units as they lie,
-- and the unit where the first gap begins (FFFFFFFFh for none)
pub record Layout : Type 0 where
  pub units : ℕ
  pub places : List (Option Extent)
  pub order : List ℕ
  pub first : ℕ

-- there is a block, and it has at least one unit
abbrev pub has_units : Option Extent → Bool
has_units None = false
has_units (Some b) = nat_lt 0 b.units

-- b is the place of the block whose number stands at position p of the order
abbrev pub IsNth : List (Option Extent) → List ℕ → ℕ → Extent → Type 0
IsNth places order p b = get_or places (get_or order p 0) None ≡ Some b

-- the order has the number of each block that has units once, rising by the places of the blocks
pub record IsOrder (places : List (Option Extent)) (order : List ℕ) : Type 0 where
  pub live : (p : ℕ) → p < length order → (b : Extent) × IsNth places order p b × (0 < b.units)
  pub rising : (p q : ℕ) (b d : Extent) → p < q → q < length order → IsNth places order p b → IsNth places order q d →
      b.base + b.units ≤ d.base
  pub whole : (i : ℕ) (b : Extent) → get_or places i None ≡ Some b → 0 < b.units → (p : ℕ) × (p < length order) ×
      (get_or order p 0 ≡ i)
  pub counted : length order ≡ count_by has_units places
  pub small : (p : ℕ) → p < length order → get_or order p 0 < 576

-- no two blocks share a unit, and each lies within the pool, those of no unit at unit 0; the order has those with units
pub record IsTable (l : Layout) : Type 0 where
  pub laid : IsLaid l.units l.places
  pub based : AreBased l.places
  pub order : IsOrder l.places l.order

-- a table with no block, for a pool of `units` units; where its first gap begins is not set yet
unfoldable pub no_layout : ℕ → Layout
no_layout units = record { units = units; places = replicate 576 None; order = []; first = 0xFFFFFFFF }

-- the first `rest` blocks of the order end at the unit `end` or below, and the others begin there or above
pub record IsCut (places : List (Option Extent)) (order : List ℕ) (rest end : ℕ) : Type 0 where
  pub within : rest ≤ length order
  pub lower : (p : ℕ) (b : Extent) → p < rest → IsNth places order p b → b.base + b.units ≤ end
  pub upper : (p : ℕ) (b : Extent) → rest ≤ p → p < length order → IsNth places order p b → end ≤ b.base

-- the pool has 1 KiB for each unit of the table, and its free bytes list the gaps from the table's first gap on
pub record IsToldIn (l : Layout) (bytes : List ℕ) : Type 0 where
  pub whole : length bytes ≡ l.units * 1024
  pub tells : Tells l.places l.units 0 l.first bytes

-- the pool that a table and the bytes of the pool stand for
abbrev pub blocks_in : Layout → List ℕ → Blocks
blocks_in l bytes = record { units = l.units; places = l.places; contents = contents_of l.places bytes }
