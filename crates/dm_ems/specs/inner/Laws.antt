-- Laws of the expanded memory driver: tables and memory are consistent at the start, and stay so through the calls 43h,
-- 44h, 45h, 47h, 48h and 53h with AL = 1, and while a program or another call only writes bytes to memory. They keep
-- the blocks that are not pages. And a new handle gets all the pages that it asks for. (dm_ems_move has those of 4Eh,
-- 50h, 51h and 57h.)
use Rattle.std.specs.Prelude.{ℕ, ◌<◌, ◌≤◌, ◌≡◌, List, length, Ok}
use Rattle.dm_pool.specs.Blocks.{no_blocks}
use Rattle.dm_space.specs.Memory.{Memory, of_ram}
use Rattle.dm_space.specs.Places.{IsShaped}
use Rattle.dm_ems.specs.Tables.{Expanded, expanded, new_tables, appended_page, cut}
use Rattle.dm_ems.specs.Consistent.{IsUsed, IsConsistent}
use Rattle.dm_ems.specs.inner.Consistent.{HasNumbers}
use Rattle.dm_ems.specs.Coming.{HasPages}
use Rattle.dm_ems.specs.inner.Outside.{LeavesOutside}
use Rattle.dm_ems.specs.Calls.{state_after, with_memory}
use Rattle.dm_ems.specs.Handles.{allocate, deallocate}
use Rattle.dm_ems.specs.Maps.{map_page, save_map, restore_map}
use Rattle.dm_ems.specs.Names.{set_name}

-- the tables and the memory of a new machine with 512 pages at most are consistent, however many units its pool has and
-- whatever its RAM holds: the pool has no block, and no window shows one
abbrev pub StartIsConsistent : Type 0
StartIsConsistent = (total units : ℕ) (low : List ℕ) → total ≤ 512 →
    IsConsistent (expanded (new_tables total) (of_ram low (no_blocks units)))

-- each of these calls leaves tables and memory consistent if they are so before it, and so do the two steps of
-- reallocation (51h), `appended_page` for a handle in use where the machine has one more page, and `cut`
pub record CallsKeepConsistency : Type 0 where
  pub allocating : (x : Expanded) (n : ℕ) → IsConsistent x → IsConsistent (state_after x (allocate x n))
  pub deallocating : (x : Expanded) (handle : ℕ) → IsConsistent x → IsConsistent (state_after x (deallocate x handle))
  pub mapping : (x : Expanded) (window page handle : ℕ) → IsConsistent x →
      IsConsistent (state_after x (map_page x window page handle))
  pub saving : (x : Expanded) (handle : ℕ) → IsConsistent x → IsConsistent (state_after x (save_map x handle))
  pub restoring : (x : Expanded) (handle : ℕ) → IsConsistent x → IsConsistent (state_after x (restore_map x handle))
  pub naming : (x : Expanded) (handle segment offset : ℕ) → IsConsistent x →
      IsConsistent (state_after x (set_name x handle segment offset))
  pub appending : (x : Expanded) (handle : ℕ) → IsUsed x.ems.handles handle → length x.ems.pages < x.ems.total →
      IsConsistent x → IsConsistent (appended_page x handle)
  pub cutting : (x : Expanded) (handle count : ℕ) → IsConsistent x → IsConsistent (cut x handle count)

-- tables and memory stay consistent when a program writes to memory: with the same tables and any memory of the same
-- map and the same blocks, whatever its bytes
abbrev pub WritesKeepConsistency : Type 0
WritesKeepConsistency = (x : Expanded) (m : Memory) → IsShaped x.memory m → IsConsistent x →
    IsConsistent (with_memory x m)

-- each of these calls, the two steps of reallocation, and a program's write keep the blocks that are not pages, their
-- sizes, and A20
pub record CallsLeaveOutside : Type 0 where
  pub allocating : (x : Expanded) (n : ℕ) → LeavesOutside x (state_after x (allocate x n))
  pub deallocating : (x : Expanded) (handle : ℕ) → LeavesOutside x (state_after x (deallocate x handle))
  pub mapping : (x : Expanded) (window page handle : ℕ) →
      LeavesOutside x (state_after x (map_page x window page handle))
  pub saving : (x : Expanded) (handle : ℕ) → LeavesOutside x (state_after x (save_map x handle))
  pub restoring : (x : Expanded) (handle : ℕ) → LeavesOutside x (state_after x (restore_map x handle))
  pub naming : (x : Expanded) (handle segment offset : ℕ) →
      LeavesOutside x (state_after x (set_name x handle segment offset))
  pub appending : (x : Expanded) (handle : ℕ) → LeavesOutside x (appended_page x handle)
  pub cutting : (x : Expanded) (handle count : ℕ) → LeavesOutside x (cut x handle count)
  pub writing : (x : Expanded) (m : Memory) → IsShaped x.memory m → LeavesOutside x (with_memory x m)

-- if tables and memory are consistent, at most 64 blocks are not pages, and 43h succeeds, the new handle has as many
-- pages as were asked for, all new and of zeros; and tables and memory stay consistent
abbrev pub PagesCome : Type 0
PagesCome = (x y : Expanded) (n handle : ℕ) → IsConsistent x → HasNumbers x → allocate x n ≡ Ok (handle, y) →
    HasPages x y handle n
