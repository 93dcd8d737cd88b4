-- What holds of the fields of a `Region`, and what contracts see of it.
use Rattle.std.specs.Prelude.{◌≡◌, ◌^◌, ◌<◌, ◌≤◌, map, length}
use Rattle.dm_region.specs.Holes.{Holed}
use Rattle.dm_region.specs.inner.Places.{or_zero, IsHoled}
use Rattle.dm_region.specs.declared.region.Region.TheInside.{Inside}

-- each place holds a byte but those of the hole, which are empty; there are r.len places, fewer than 2 ^ 63; places and
-- deed are those of the block at r.base
pub record IsRegion (r : Inside) : Type 0 where
  pub holed : IsHoled r.cells.slots r.from r.to
  pub ordered : r.from ≤ r.to
  pub within : r.to ≤ r.len
  pub length_is : length r.cells.slots ≡ r.len
  pub fits : r.len < 2 ^ 63
  pub cells_at : r.cells.at ≡ r.base.ptr
  pub deed_at : r.deed.at ≡ r.base.ptr
  pub deed_len : r.deed.len ≡ r.len
  pub deed_alloc : r.deed.alloc ≡ r.alloc

-- the bytes of a region from its first place on, zeros in its hole, and the hole
abbrev pub holed_of : Inside → Holed
holed_of r = record { bytes = map or_zero r.cells.slots; from = r.from; to = r.to }
