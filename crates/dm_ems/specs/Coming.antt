-- That a call which succeeds (43h and 51h) gives a handle all the pages that it asks for (the law `PagesCome` of
-- dm_drivers).
use Rattle.std.specs.Prelude.{ℕ, ◌≡◌, List, ◌++◌, take, All}
use Rattle.dm_pool.specs.Blocks.{IsLive, zeros}
use Rattle.dm_space.specs.Memory.{page_bytes}
use Rattle.dm_ems.specs.Tables.{Expanded, blocks_of, page_count}
use Rattle.dm_ems.specs.Consistent.{IsConsistent}

-- the block is not in the pool of x; in that of y it is a page of zeros
pub record IsNewPage (x y : Expanded) (block : ℕ) : Type 0 where
  pub before : IsLive x.memory.blocks block → ⊥
  pub live : IsLive y.memory.blocks block
  pub bytes : page_bytes y.memory block ≡ zeros 16

-- after a call from x to y the handle has n pages: of those that it had the first n, and after them new ones of zeros.
-- Tables and memory are consistent in y
pub record HasPages (x y : Expanded) (handle n : ℕ) : Type 0 where
  pub count : page_count y.ems handle ≡ n
  pub new : List ℕ
  pub blocks : blocks_of y.ems handle ≡ take n (blocks_of x.ems handle) ++ new
  pub zeros : All (IsNewPage x y) new
  pub consistency : IsConsistent y
