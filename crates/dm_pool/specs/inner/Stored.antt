-- What a store holds, by its region h and its table, as private contracts and proofs speak of it.
use Rattle.std.specs.Prelude.{◌≡◌, ℕ, ◌+◌, ◌*◌, ◌≤◌, Bool, true, false, List, length}
use Rattle.dm_region.specs.Holes.{Holed}
use Rattle.dm_region.specs.Parts.{part}
use Rattle.dm_pool.specs.inner.Order.{Layout, no_layout, blocks_in, IsToldIn}
use Rattle.dm_pool.specs.Stored.{Stored}

-- the bytes of low memory: the first 110000h bytes of the region
abbrev pub low_part : List ℕ → List ℕ
low_part xs = part xs 0 0x110000

-- the scratch bytes: the 200000h bytes after those of low memory
abbrev pub scratch_part : List ℕ → List ℕ
scratch_part xs = part xs 0x110000 0x200000

-- the bytes of a pool of `units` units: those after the scratch bytes
abbrev pub pool_part : List ℕ → ℕ → List ℕ
pool_part xs units = part xs 0x310000 (units * 1024)

-- what a store holds whose region has the bytes xs and whose table is l
abbrev pub stored : List ℕ → Layout → Stored
stored xs l = record { low = low_part xs; scratch = scratch_part xs; blocks = blocks_in l (pool_part xs l.units) }

-- the free bytes of a pool that is in use list its gaps; one that is not has no block
abbrev pub IsListed : Bool → Layout → List ℕ → Type 0
IsListed true l bytes = IsToldIn l bytes
IsListed false l bytes = l.places ≡ (no_layout l.units).places

-- the region has the low bytes, the scratch bytes and the pool, no more
pub record IsStore (xs : List ℕ) (l : Layout) (in_use : Bool) : Type 0 where
  pub whole : length xs ≡ 0x310000 + l.units * 1024
  pub listed : IsListed in_use l (pool_part xs l.units)

-- the hole of the region begins in the scratch bytes, and ends with them where the pool is in use
pub record IsKept (h : Holed) (l : Layout) (in_use : Bool) : Type 0 where
  pub store : IsStore h.bytes l in_use
  pub low : 0x110000 ≤ h.from
  pub front : h.from ≤ 0x310000
  pub back : 0x310000 ≤ h.to
  pub used : in_use ≡ true → h.to ≤ 0x310000
