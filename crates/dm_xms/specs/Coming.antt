-- That 09h gives each block which a gap of the pool holds, as long as a handle is free (the law `BlockComes` of
-- dm_drivers).
use Rattle.std.specs.Prelude.{ℕ, ◌<◌, ◌≡◌, ◌⊎◌, is_none, position, Some, None, Result, Ok, Err}
use Rattle.dm_pool.specs.Blocks.{IsLive, zeros}
use Rattle.dm_space.specs.Memory.{page_bytes}
use Rattle.dm_xms.specs.declared.status.Status.{Status}
use Rattle.dm_xms.specs.declared.status.Status.TheVariants.{NoMemory, NoHandleLeft}
use Rattle.dm_xms.specs.Tables.{Extended}
use Rattle.dm_xms.specs.Consistent.{IsConsistent}
use Rattle.dm_xms.specs.Calls.{slot}
use Rattle.dm_xms.specs.Blocks.{largest_gap}

-- from x to y the handle has come into use: its block of so many KiB is not in the pool of x, has zeros alone and no
-- lock. Tables and memory are consistent in y
pub record HasNewBlock (x y : Extended) (handle kib : ℕ) : Type 0 where
  pub block : ℕ
  pub unused : slot x.xms handle ≡ None
  pub entry : slot y.xms handle ≡ Some (record { block = block; kib = kib; locks = 0 })
  pub before : IsLive x.memory.blocks block → ⊥
  pub live : IsLive y.memory.blocks block
  pub bytes : page_bytes y.memory block ≡ zeros kib
  pub consistency : IsConsistent y

-- a call from x for a block of so many KiB gives a handle with such a block; or each handle is in use, and that is the
-- error; or each gap of the pool is smaller, and that is the error
abbrev pub Gives : Extended → ℕ → Result (ℕ × Extended) Status → Type 0
Gives x kib (Ok w) = HasNewBlock x w.1 w.0 kib
Gives x kib (Err e) = ((e ≡ NoHandleLeft) × (position is_none x.xms.handles ≡ None)) ⊎
    ((e ≡ NoMemory) × (largest_gap x < kib))
