-- What the calls of the expanded memory driver keep outside of expanded memory: the blocks of the pool that are not
-- pages (those of the extended memory driver), their sizes, and A20.
use Rattle.std.specs.Prelude.{ℕ, ◌≡◌, length}
use Rattle.dm_pool.specs.Blocks.{IsLive}
use Rattle.dm_space.specs.Memory.{page_bytes}
use Rattle.dm_ems.specs.Tables.{Expanded}
use Rattle.dm_ems.specs.Consistent.{IsOwned}

-- the pool has this block, with so many bytes, and it is not a page
pub record IsOutside (x : Expanded) (block bytes : ℕ) : Type 0 where
  pub live : IsLive x.memory.blocks block
  pub size : length (page_bytes x.memory block) ≡ bytes
  pub apart : IsOwned x.ems.pages block → ⊥

-- from x to y: each block that is not a page is still there, as large, and still not a page; there is no other such
-- block; and A20 stays. Of the blocks' bytes nothing is said
pub record LeavesOutside (x y : Expanded) : Type 0 where
  pub blocks : (block bytes : ℕ) → IsOutside x block bytes → IsOutside y block bytes
  pub others : (block : ℕ) → IsLive y.memory.blocks block → (IsOwned y.ems.pages block → ⊥) →
      IsLive x.memory.blocks block × (IsOwned x.ems.pages block → ⊥)
  pub line : y.memory.a20 ≡ x.memory.a20
