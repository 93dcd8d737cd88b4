-- What a write does, in terms of places: for layers that compare the places of addresses and see nothing of the map.
-- Two addresses of one writable place are aliased.
use Rattle.std.specs.Prelude.{◌≡◌, ℕ, ◌+◌, ◌*◌, ◌<◌, length}
use Rattle.dm_pool.specs.declared.extent.Extent.{Extent}
use Rattle.dm_pool.specs.Blocks.{IsAt}
use Rattle.dm_space.specs.declared.place.Place.{Place}
use Rattle.dm_space.specs.declared.place.Place.TheVariants.{Low, Page, Rom, Nothing}
use Rattle.dm_space.specs.Memory.{Memory, page_bytes}

-- a write to the place is kept there: a byte of RAM or of a block
abbrev pub IsWritable : Place → Type 0
IsWritable (Low a) = Unit {0}
IsWritable (Page page k) = Unit {0}
IsWritable (Rom k) = ⊥
IsWritable Nothing = ⊥

-- T has the map of S (A20 and windows), blocks of the same numbers, places and sizes, and as many bytes of RAM; the
-- bytes may differ
pub record IsShaped (S T : Memory) : Type 0 where
  pub a20 : T.a20 ≡ S.a20
  pub windows : T.windows ≡ S.windows
  pub ram_size : length T.low ≡ length S.low
  pub units : T.blocks.units ≡ S.blocks.units
  pub places : T.blocks.places ≡ S.blocks.places
  pub page_count : length T.blocks.contents ≡ length S.blocks.contents
  pub page_sizes : (page : ℕ) → length (page_bytes T page) ≡ length (page_bytes S page)

-- the spot of a place, a number by which its byte is found at once: of RAM the address, of a page's bytes one above all
-- addresses
abbrev pub IsSpot : Memory → Place → ℕ → Type 0
IsSpot m (Low a) spot = (a < 0x110000) × (spot ≡ a)
IsSpot m (Page page k) spot = (b : Extent) × IsAt m.blocks page b × (k < b.units * 1024) ×
    (spot ≡ 0x310000 + b.base * 1024 + k)
IsSpot m (Rom k) spot = ⊥
IsSpot m Nothing spot = ⊥
