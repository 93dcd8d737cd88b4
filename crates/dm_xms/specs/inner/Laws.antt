-- Laws of the extended memory driver: tables and memory are consistent at the start, and stay so through each call that
-- changes them (01h to 06h, 09h to 0Dh, 0Fh to 12h) and while a program writes. These calls keep the windows, and the
-- blocks that belong to no handle. And 09h gives each block that a gap holds.
use Rattle.std.specs.Prelude.{ℕ, List}
use Rattle.dm_pool.specs.Blocks.{no_blocks}
use Rattle.dm_space.specs.Memory.{Memory, of_ram}
use Rattle.dm_space.specs.Places.{IsShaped}
use Rattle.dm_xms.specs.Tables.{Extended, extended, new_tables}
use Rattle.dm_xms.specs.Consistent.{IsConsistent}
use Rattle.dm_xms.specs.inner.Outside.{LeavesOutside}
use Rattle.dm_xms.specs.Coming.{Gives}
use Rattle.dm_xms.specs.inner.Coming.{HasNumbers}
use Rattle.dm_xms.specs.Calls.{state_after}
use Rattle.dm_xms.specs.Area.{take_area, release_area}
use Rattle.dm_xms.specs.Uppers.{request_upper, release_upper, resize_upper}
use Rattle.dm_xms.specs.Line.{enable_globally, disable_globally, enable_locally, disable_locally}
use Rattle.dm_xms.specs.Moves.{move_memory}
use Rattle.dm_xms.specs.Blocks.{allocate, deallocate, lock, unlock, reallocate}

-- the tables and the memory of a new machine are consistent, however many units its pool has and whatever its RAM
-- holds: the pool has no block, and A20 is off
abbrev pub StartIsConsistent : Type 0
StartIsConsistent = (units : ℕ) (low : List ℕ) → IsConsistent (extended new_tables (of_ram low (no_blocks units)))

-- each call leaves tables, A20 and memory consistent if they are so before it, whether it succeeds or fails
pub record CallsKeepConsistency : Type 0 where
  pub taking_area : (x : Extended) → IsConsistent x →
      IsConsistent (extended (state_after x.xms (take_area x.xms)) x.memory)
  pub releasing_area : (x : Extended) → IsConsistent x →
      IsConsistent (extended (state_after x.xms (release_area x.xms)) x.memory)
  pub enabling_globally : (x : Extended) → IsConsistent x → IsConsistent (enable_globally x)
  pub disabling_globally : (x : Extended) → IsConsistent x → IsConsistent (disable_globally x).1
  pub enabling_locally : (x : Extended) → IsConsistent x → IsConsistent (state_after x (enable_locally x))
  pub disabling_locally : (x : Extended) → IsConsistent x → IsConsistent (disable_locally x).1
  pub allocating : (x : Extended) (kib : ℕ) → IsConsistent x → IsConsistent (state_after x (allocate x kib))
  pub deallocating : (x : Extended) (handle : ℕ) → IsConsistent x → IsConsistent (state_after x (deallocate x handle))
  pub moving : (x : Extended) (segment offset : ℕ) → IsConsistent x →
      IsConsistent (state_after x (move_memory x segment offset))
  pub locking : (x : Extended) (handle : ℕ) → IsConsistent x → IsConsistent (state_after x (lock x handle))
  pub unlocking : (x : Extended) (handle : ℕ) → IsConsistent x →
      IsConsistent (extended (state_after x.xms (unlock x.xms handle)) x.memory)
  pub reallocating : (x : Extended) (handle kib : ℕ) → IsConsistent x →
      IsConsistent (state_after x (reallocate x handle kib))
  pub requesting : (x : Extended) (paragraphs : ℕ) → IsConsistent x →
      IsConsistent (extended (state_after x.xms (request_upper x.xms paragraphs)) x.memory)
  pub releasing : (x : Extended) (segment : ℕ) → IsConsistent x →
      IsConsistent (extended (state_after x.xms (release_upper x.xms segment)) x.memory)
  pub resizing : (x : Extended) (segment paragraphs : ℕ) → IsConsistent x →
      IsConsistent (extended (state_after x.xms (resize_upper x.xms segment paragraphs)) x.memory)

-- tables and memory stay consistent when a program writes to memory: with the same tables and any memory of the same
-- map and the same blocks, whatever its bytes
abbrev pub WritesKeepConsistency : Type 0
WritesKeepConsistency = (x : Extended) (m : Memory) → IsShaped x.memory m → IsConsistent x →
    IsConsistent (extended x.xms m)

-- each call keeps the blocks that belong to no handle, their sizes, and the windows, whether it succeeds or fails
pub record CallsLeaveOutside : Type 0 where
  pub taking_area : (x : Extended) → LeavesOutside x (extended (state_after x.xms (take_area x.xms)) x.memory)
  pub releasing_area : (x : Extended) → LeavesOutside x (extended (state_after x.xms (release_area x.xms)) x.memory)
  pub enabling_globally : (x : Extended) → LeavesOutside x (enable_globally x)
  pub disabling_globally : (x : Extended) → LeavesOutside x (disable_globally x).1
  pub enabling_locally : (x : Extended) → LeavesOutside x (state_after x (enable_locally x))
  pub disabling_locally : (x : Extended) → LeavesOutside x (disable_locally x).1
  pub allocating : (x : Extended) (kib : ℕ) → LeavesOutside x (state_after x (allocate x kib))
  pub deallocating : (x : Extended) (handle : ℕ) → LeavesOutside x (state_after x (deallocate x handle))
  pub moving : (x : Extended) (segment offset : ℕ) → LeavesOutside x (state_after x (move_memory x segment offset))
  pub locking : (x : Extended) (handle : ℕ) → LeavesOutside x (state_after x (lock x handle))
  pub unlocking : (x : Extended) (handle : ℕ) →
      LeavesOutside x (extended (state_after x.xms (unlock x.xms handle)) x.memory)
  pub reallocating : (x : Extended) (handle kib : ℕ) → LeavesOutside x (state_after x (reallocate x handle kib))
  pub requesting : (x : Extended) (paragraphs : ℕ) →
      LeavesOutside x (extended (state_after x.xms (request_upper x.xms paragraphs)) x.memory)
  pub releasing : (x : Extended) (segment : ℕ) →
      LeavesOutside x (extended (state_after x.xms (release_upper x.xms segment)) x.memory)
  pub resizing : (x : Extended) (segment paragraphs : ℕ) →
      LeavesOutside x (extended (state_after x.xms (resize_upper x.xms segment paragraphs)) x.memory)

-- if tables and memory are consistent, and at most 512 blocks belong to no handle, 09h gives a handle with a new block
-- of zeros, except where each handle is in use, or no gap holds the block
abbrev pub BlockComes : Type 0
BlockComes = (x : Extended) (kib : ℕ) → IsConsistent x → HasNumbers x → Gives x kib (allocate x kib)
