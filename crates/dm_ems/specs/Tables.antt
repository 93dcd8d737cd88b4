-- The tables of expanded memory, and how a page is added and removed (LIM EMS 4.0, section 2: handles, logical pages,
-- mapping registers). A page is a block of 16 units of the pool, 16 KiB.
use Rattle.std.specs.Prelude.{ℕ, zero, suc, ◌-◌, ◌≤◌, ◌≡◌, Bool, ◌==◌, if◌then◌else◌, List, [], ◌∷◌, ◌++◌, length, map, filter, count_by, position, remove, drop, min, replicate, Option, Some, None}
use Rattle.dm_pool.specs.Blocks.{Blocks, taken, without}
use Rattle.dm_pool.specs.Gaps.{gaps, count_fitting}
use Rattle.dm_space.specs.Memory.{Memory, with_blocks}
use Rattle.dm_ems.specs.declared.tables.Handle.{Handle}
use Rattle.dm_ems.specs.declared.tables.Page.{Page}

-- the tables of the expanded memory driver
pub record Tables : Type 0 where
  -- the number of pages of the machine, free ones included
  pub total : ℕ
  -- the entry of each handle, 0 to 63; None for one that is not in use
  pub handles : List (Option Handle)
  -- the pages of all handles; those of one handle are in the order of their logical numbers
  pub pages : List Page

-- what calls of the driver read and change: its tables and the memory
pub record Expanded : Type 0 where
  pub ems : Tables
  pub memory : Memory

-- the tables and the memory as one state
abbrev pub expanded : Tables → Memory → Expanded
expanded ems memory = record { ems = ems; memory = memory }

-- eight zeros, the name of a handle that has none
abbrev pub no_name : List ℕ
no_name = 0 ∷ 0 ∷ 0 ∷ 0 ∷ 0 ∷ 0 ∷ 0 ∷ 0 ∷ []

-- the entry of a handle with no name and no saved windows
abbrev pub blank : Handle
blank = record { name = no_name; saved = None }

-- the tables of a new machine that has `total` pages, all free: handle 0 is in use, with no page and no name
abbrev pub new_tables : ℕ → Tables
new_tables total = record { total = total; handles = Some blank ∷ replicate 63 None; pages = [] }

-- ---- pages

-- the page is one of this handle
abbrev pub is_of : ℕ → Page → Bool
is_of handle page = page.handle == handle

-- the blocks of a handle's pages, in the order of their logical numbers
abbrev pub blocks_of : Tables → ℕ → List ℕ
blocks_of ems handle = map (λ (page : Page). page.block) (filter (is_of handle) ems.pages)

-- the number of pages of a handle
abbrev pub page_count : Tables → ℕ → ℕ
page_count ems handle = count_by (is_of handle) ems.pages

-- 42h: the number of pages that can still be allocated: those that fit the gaps of the pool, but not more than are
-- left of the total
abbrev pub unallocated : Expanded → ℕ
unallocated x = min (count_fitting 16 (gaps x.memory.blocks.places x.memory.blocks.units))
    (x.ems.total - length x.ems.pages)

-- ---- adding a page

-- a new block of the pool becomes the last page of a handle; without a block nothing changes
abbrev pub with_page : Expanded → ℕ → Option (ℕ × Blocks) → Expanded
with_page x handle None = x
with_page x handle (Some p) = record {
  ems = record x.ems {
    pages = x.ems.pages ++ record {
      handle = handle;
      block = p.0;
    } ∷ [];
  };
  memory = with_blocks x.memory p.1;
}

-- a page of zeros is added after those of a handle, in the lowest gap of the pool that holds it; without such a gap, or
-- a number of the pool that is left, nothing changes
unfoldable pub appended_page : Expanded → ℕ → Expanded
appended_page x handle = with_page x handle (taken x.memory.blocks 16)

-- n pages of zeros are added after those of a handle, each as by `appended_page`
abbrev pub appended : Expanded → ℕ → ℕ → Expanded
appended x handle zero = x
appended x handle (suc n) = appended_page (appended x handle n) handle

-- ---- removing a page

-- the memory with these blocks, or nothing, shown by the four windows; the blocks' bytes stay
abbrev pub with_windows : Memory → List (Option ℕ) → Memory
with_windows m windows = record m { windows = windows }

-- what a window shows once this block is removed: nothing, if it showed the block
abbrev pub unmapped : ℕ → Option ℕ → Option ℕ
unmapped block None = None
unmapped block (Some shown) = if shown == block then None else Some shown

-- what saved windows show once this block is removed
abbrev pub unmapped_saved : ℕ → Option (List (Option ℕ)) → Option (List (Option ℕ))
unmapped_saved block None = None
unmapped_saved block (Some windows) = Some (map (unmapped block) windows)

-- the entry of a handle whose saved windows no longer show this block; the name stays
abbrev pub unmapped_slot : ℕ → Option Handle → Option Handle
unmapped_slot block None = None
unmapped_slot block (Some handle) = Some (record handle { saved = unmapped_saved block handle.saved })

-- the page's block is this one
abbrev pub is_block : ℕ → Page → Bool
is_block block page = page.block == block

-- page i, whose block is `block`, is removed from its handle, from all windows and all saved windows, and the block
-- from the pool; None changes nothing
abbrev pub without_page : Expanded → ℕ → Option ℕ → Expanded
without_page x block None = x
without_page x block (Some i) = record {
  ems = record x.ems { handles = map (unmapped_slot block) x.ems.handles; pages = remove x.ems.pages i };
  memory = with_blocks (with_windows x.memory (map (unmapped block) x.memory.windows)) (without x.memory.blocks block);
}

-- the page with this block is removed as in `without_page`, if there is one
unfoldable pub forgotten : Expanded → ℕ → Expanded
forgotten x block = without_page x block (position (is_block block) x.ems.pages)

-- the pages with these blocks are removed, one after the other
abbrev pub forgotten_all : Expanded → List ℕ → Expanded
forgotten_all x [] = x
forgotten_all x (block ∷ blocks) = forgotten_all (forgotten x block) blocks

-- a handle, which stays in use, keeps its first `count` pages, and its others are removed as in `forgotten`
unfoldable pub cut : Expanded → ℕ → ℕ → Expanded
cut x handle count = forgotten_all x (drop count (blocks_of x.ems handle))
