-- That the tables of extended memory and the memory are consistent: each handle in use has a block of its own, as
-- large as the table says, that no window shows, and A20 is as the tables say. Windows show blocks that are there.
-- Blocks are named by their numbers in the pool, whose table has 576 entries.
use Rattle.std.specs.Prelude.{ℕ, ◌*◌, ◌≡◌, ◌≢◌, true, false, List, length, slice_index_or, Option, None, IfSome}
use Rattle.dm_pool.specs.Blocks.{IsLive}
use Rattle.dm_pool.specs.FreeList.{AreBased}
use Rattle.dm_space.specs.Memory.{Memory, page_bytes}
use Rattle.dm_space.specs.Unseen.{shows}
use Rattle.dm_xms.specs.declared.tables.Handle.{Handle}
use Rattle.dm_xms.specs.Tables.{Extended}
use Rattle.dm_xms.specs.Line.{is_on}

-- the block of this handle is in the pool, has the size that the entry says, and no window shows it
pub record IsExtended (m : Memory) (s : Handle) : Type 0 where
  pub live : IsLive m.blocks s.block
  pub size : length (page_bytes m s.block) ≡ 0x400 * s.kib
  pub hidden : shows m.windows s.block ≡ false

-- entry k of the table of handles: that of handle k + 1
abbrev pub handle_at : List (Option Handle) → ℕ → Option Handle
handle_at handles k = slice_index_or handles k None

-- the tables of extended memory, A20 and the memory are consistent, as the head of this file says
pub record IsConsistent (x : Extended) : Type 0 where
  pub places : length x.memory.blocks.places ≡ 576
  pub contents : length x.memory.blocks.contents ≡ 576
  pub based : AreBased x.memory.blocks.places
  pub handles : length x.xms.handles ≡ 64
  pub blocks : (k : ℕ) → IfSome (handle_at x.xms.handles k) (IsExtended x.memory)
  pub apart : (j k : ℕ) → j ≢ k → IfSome (handle_at x.xms.handles j) (λ s. IfSome (handle_at x.xms.handles k)
      (λ other. other.block ≢ s.block))
  pub shown : (block : ℕ) → shows x.memory.windows block ≡ true → IsLive x.memory.blocks block
  pub line : x.memory.a20 ≡ is_on x.xms.global x.xms.local
