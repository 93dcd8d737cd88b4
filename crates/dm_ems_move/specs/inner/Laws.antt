-- Laws of 51h, 50h, 4Eh and 57h (reallocation, maps, moves): tables and memory stay consistent, what is outside of
-- expanded memory is kept, and a handle gets all the pages that it asks for.
use Rattle.std.specs.Prelude.{ℕ, ◌≡◌, None, Ok}
use Rattle.dm_ems.specs.Tables.{Expanded}
use Rattle.dm_ems.specs.Consistent.{IsConsistent}
use Rattle.dm_ems.specs.inner.Consistent.{HasNumbers}
use Rattle.dm_ems.specs.Coming.{HasPages}
use Rattle.dm_ems.specs.inner.Outside.{LeavesOutside}
use Rattle.dm_ems.specs.Calls.{state_after}
use Rattle.dm_ems_move.specs.declared.reallocation.Reallocated.{Reallocated}
use Rattle.dm_ems_move.specs.Reallocation.{reallocate}
use Rattle.dm_ems_move.specs.Many.{map_many}
use Rattle.dm_ems_move.specs.Maps.{whole_map}
use Rattle.dm_ems_move.specs.RegionMoves.{move_region, exchange_region}

-- tables and memory that are consistent before a call are so after it: 51h, 50h, 4Eh, and 57h that moves or exchanges
pub record MovesKeepConsistency : Type 0 where
  pub reallocating : (x : Expanded) (handle n : ℕ) → IsConsistent x →
      IsConsistent (state_after x (reallocate x handle n))
  pub mapping : (x : Expanded) (mode handle count segment offset : ℕ) → IsConsistent x →
      IsConsistent (state_after x (map_many x mode handle count segment offset))
  pub setting : (x : Expanded) (mode to_segment to_offset from_segment from_offset : ℕ) → IsConsistent x →
      IsConsistent (state_after x (whole_map x mode to_segment to_offset from_segment from_offset))
  pub moving : (x : Expanded) (segment offset : ℕ) → IsConsistent x →
      IsConsistent (state_after x (move_region x segment offset))
  pub exchanging : (x : Expanded) (segment offset : ℕ) → IsConsistent x →
      IsConsistent (state_after x (exchange_region x segment offset))

-- each of these calls keeps the blocks that are not pages, their sizes, and A20
pub record MovesLeaveOutside : Type 0 where
  pub reallocating : (x : Expanded) (handle n : ℕ) → LeavesOutside x (state_after x (reallocate x handle n))
  pub mapping : (x : Expanded) (mode handle count segment offset : ℕ) →
      LeavesOutside x (state_after x (map_many x mode handle count segment offset))
  pub setting : (x : Expanded) (mode to_segment to_offset from_segment from_offset : ℕ) →
      LeavesOutside x (state_after x (whole_map x mode to_segment to_offset from_segment from_offset))
  pub moving : (x : Expanded) (segment offset : ℕ) → LeavesOutside x (state_after x (move_region x segment offset))
  pub exchanging : (x : Expanded) (segment offset : ℕ) →
      LeavesOutside x (state_after x (exchange_region x segment offset))

-- if tables and memory are consistent, at most 64 blocks are not pages, and a reallocation (51h) is not refused, the
-- handle has as many pages as were asked for: its first ones, then new ones of zeros; and tables and memory stay
-- consistent
abbrev pub PagesCome : Type 0
PagesCome = (x y : Expanded) (handle n : ℕ) (r : Reallocated) → IsConsistent x → HasNumbers x →
    reallocate x handle n ≡ Ok (r, y) → r.refused ≡ None → HasPages x y handle n
