-- Reading the bytes of a page of expanded memory, or of a block of extended memory, by its handle.
-- Sources: LIM EMS 4.0, section 2 (handles and logical pages); XMS 3.0 (handles and blocks).
use Rattle.std.specs.Prelude.{◌≡◌, ℕ, ◌+◌, ◌<◌, ◌≤◌, Bool, true, false, List, length, take, drop, slice_get, slice_index_or, Option, Some, None}
use Rattle.dm_space.specs.Memory.{page_bytes}
use Rattle.dm_services.specs.state.State.{State}
use Rattle.dm_ems.specs.Tables.{blocks_of}
use Rattle.dm_xms.specs.declared.tables.Handle.{Handle}
use Rattle.dm_xms.specs.Calls.{slot}
use Rattle.dm_host.specs.declared.refusal.Refusal.{Refusal}
use Rattle.dm_host.specs.declared.refusal.Refusal.TheVariants.{NoHandle, NoPage, PastEnd}
use Rattle.dm_host.specs.Hosts.{Hosted, Shows, IsNotLoaded}

-- the buffer `new` is filled with the bytes from the offset on, if there are as many (true); otherwise it is `old`
-- (false)
abbrev pub FillsBuffer : List ℕ → ℕ → List ℕ → List ℕ → Bool → Type 0
FillsBuffer bytes offset old new true = (offset + length old ≤ length bytes) ×
    (new ≡ take (length old) (drop offset bytes))
FillsBuffer bytes offset old new false = (length bytes < offset + length old) × (new ≡ old)

-- the handle of expanded memory is in use
abbrev pub HasHandle : State → ℕ → Type 0
HasHandle s handle = slice_index_or s.ems.handles handle None ≡ None → ⊥

-- the block of the pool that a logical page of a handle is; None if the handle has no such page
abbrev pub block_of : State → ℕ → ℕ → Option ℕ
block_of s handle page = slice_get (blocks_of s.ems handle) page

-- the buffer `new` is filled with bytes of a logical page of a handle, from an offset in the page on
pub record ReadsPage (s : State) (handle page offset : ℕ) (old new : List ℕ) : Type 0 where
  pub block : ℕ
  pub there : block_of s handle page ≡ Some block
  pub fills : FillsBuffer (page_bytes s.memory block) offset old new true

-- the page has fewer than n bytes from the offset on
pub record IsPastPage (s : State) (handle page offset n : ℕ) : Type 0 where
  pub block : ℕ
  pub there : block_of s handle page ≡ Some block
  pub short : length (page_bytes s.memory block) < offset + n

-- why n bytes of a page are not read, in this order: no program is loaded; the handle is not in use; it has no such
-- page; not all of the bytes are in the page
pub data IsPageUnread (h : Hosted) (handle page offset n : ℕ) (why : Refusal) : Type 0 where
  not_loaded : IsNotLoaded h why → IsPageUnread h handle page offset n why
  no_handle : Shows h (λ s. slice_index_or s.ems.handles handle None ≡ None) → why ≡ NoHandle →
      IsPageUnread h handle page offset n why
  no_page : Shows h (λ s. HasHandle s handle × (block_of s handle page ≡ None)) → why ≡ NoPage →
      IsPageUnread h handle page offset n why
  past_end : Shows h (λ s. HasHandle s handle × IsPastPage s handle page offset n) → why ≡ PastEnd →
      IsPageUnread h handle page offset n why

-- the buffer `new` is filled with bytes of the block of a handle of extended memory, from an offset in the block on
pub record ReadsBlock (s : State) (handle offset : ℕ) (old new : List ℕ) : Type 0 where
  pub entry : Handle
  pub there : slot s.xms handle ≡ Some entry
  pub fills : FillsBuffer (page_bytes s.memory entry.block) offset old new true

-- the block of the handle has fewer than n bytes from the offset on
pub record IsPastBlock (s : State) (handle offset n : ℕ) : Type 0 where
  pub entry : Handle
  pub there : slot s.xms handle ≡ Some entry
  pub short : length (page_bytes s.memory entry.block) < offset + n

-- why n bytes of a block are not read, in this order: no program is loaded; the handle is not in use; not all of the
-- bytes are in its block
pub data IsBlockUnread (h : Hosted) (handle offset n : ℕ) (why : Refusal) : Type 0 where
  not_loaded : IsNotLoaded h why → IsBlockUnread h handle offset n why
  no_handle : Shows h (λ s. slot s.xms handle ≡ None) → why ≡ NoHandle → IsBlockUnread h handle offset n why
  past_end : Shows h (λ s. IsPastBlock s handle offset n) → why ≡ PastEnd → IsBlockUnread h handle offset n why
