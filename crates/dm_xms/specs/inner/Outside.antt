-- What the calls of the extended memory driver keep outside of extended memory: the blocks of the pool that belong to
-- no handle (the pages of expanded memory), their sizes, and the windows.
use Rattle.std.specs.Prelude.{ℕ, ◌≡◌, ◌≢◌, length, IfSome}
use Rattle.dm_pool.specs.Blocks.{IsLive}
use Rattle.dm_space.specs.Memory.{page_bytes}
use Rattle.dm_xms.specs.Tables.{Extended}
use Rattle.dm_xms.specs.Consistent.{handle_at}

-- the block belongs to no handle
abbrev pub IsNoHandles : Extended → ℕ → Type 0
IsNoHandles x block = (k : ℕ) → IfSome (handle_at x.xms.handles k) (λ s. s.block ≢ block)

-- the pool has this block, with so many bytes, and it belongs to no handle
pub record IsOutside (x : Extended) (block bytes : ℕ) : Type 0 where
  pub live : IsLive x.memory.blocks block
  pub size : length (page_bytes x.memory block) ≡ bytes
  pub apart : IsNoHandles x block

-- from x to y: each block that belongs to no handle is still there, as large, and still belongs to none; there is no
-- other such block; and the windows stay. Of the blocks' bytes nothing is said
pub record LeavesOutside (x y : Extended) : Type 0 where
  pub blocks : (block bytes : ℕ) → IsOutside x block bytes → IsOutside y block bytes
  pub others : (block : ℕ) → IsLive y.memory.blocks block → IsNoHandles y block → IsLive x.memory.blocks block ×
      IsNoHandles x block
  pub windows : y.memory.windows ≡ x.memory.windows
