-- That the tables of expanded memory and the memory are consistent: each page is a block of its own and belongs to a
-- handle in use, and windows, saved ones too, show pages alone. Blocks are named by their numbers in the pool, whose
-- table has 576 entries.
use Rattle.std.specs.Prelude.{ℕ, ◌<◌, ◌≤◌, ◌≡◌, ◌≢◌, List, length, slice_index_or, AllPairs, Option, Some, None, IfSome, IsSome}
use Rattle.dm_pool.specs.FreeList.{AreBased}
use Rattle.dm_space.specs.Memory.{IsPage}
use Rattle.dm_ems.specs.declared.tables.Handle.{Handle}
use Rattle.dm_ems.specs.declared.tables.Page.{Page}
use Rattle.dm_ems.specs.Tables.{Expanded}

-- the block of page k of the list; 0 past its end
abbrev pub block_at : List Page → ℕ → ℕ
block_at pages k = (slice_index_or pages k (record { handle = 0; block = 0 })).block

-- the handle of page k of the list; 0 past its end
abbrev pub handle_at : List Page → ℕ → ℕ
handle_at pages k = (slice_index_or pages k (record { handle = 0; block = 0 })).handle

-- the handle has an entry in the table: it is in use
abbrev pub IsUsed : List (Option Handle) → ℕ → Type 0
IsUsed handles handle = IsSome (slice_index_or handles handle None)

-- the block is that of a page of the list
abbrev pub IsOwned : List Page → ℕ → Type 0
IsOwned pages block = (k : ℕ) × (k < length pages) × (block_at pages k ≡ block)

-- each window shows a page, if it shows anything
abbrev pub ShowsPages : List Page → List (Option ℕ) → Type 0
ShowsPages pages windows = (k : ℕ) → IfSome (slice_index_or windows k None) (IsOwned pages)

-- each saved window of a handle shows a page, if it shows anything
abbrev pub SavesPages : List Page → Option Handle → Type 0
SavesPages pages None = Unit {0}
SavesPages pages (Some handle) = IfSome handle.saved (ShowsPages pages)

-- the tables of expanded memory and the memory are consistent: the pool's table has its size, there are no more pages
-- than the machine has, each page belongs to a handle in use and has a block of 16 KiB of its own, and windows and
-- saved windows show pages alone
pub record IsConsistent (x : Expanded) : Type 0 where
  pub places : length x.memory.blocks.places ≡ 576
  pub contents : length x.memory.blocks.contents ≡ 576
  pub based : AreBased x.memory.blocks.places
  pub total : x.ems.total ≤ 512
  pub few : length x.ems.pages ≤ x.ems.total
  pub used : (k : ℕ) → k < length x.ems.pages → IsUsed x.ems.handles (handle_at x.ems.pages k)
  pub owned : (k : ℕ) → k < length x.ems.pages → IsPage x.memory (block_at x.ems.pages k)
  pub apart : AllPairs (λ (p : Page) (q : Page). p.block ≢ q.block) x.ems.pages
  pub shown : ShowsPages x.ems.pages x.memory.windows
  pub saved : (handle : ℕ) → SavesPages x.ems.pages (slice_index_or x.ems.handles handle None)
