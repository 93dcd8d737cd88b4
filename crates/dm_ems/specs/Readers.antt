-- What the listings of the expanded memory driver's tables read: a handle's pages and name, and the page that a
-- window shows (LIM EMS 4.0, section 2).
use Rattle.std.specs.Prelude.{ℕ, List, take, count_by, position, slice_index_or, Option, Some, None}
use Rattle.dm_space.specs.Memory.{Memory}
use Rattle.dm_ems.specs.declared.tables.Handle.{Handle}
use Rattle.dm_ems.specs.declared.tables.Page.{Page}
use Rattle.dm_ems.specs.declared.readers.Holding.{Holding}
use Rattle.dm_ems.specs.Tables.{Tables, is_of, is_block, page_count}

-- ---- handles

-- the number of pages and the name of a handle, by its entry in the table; None if it is not in use
abbrev pub held : ℕ → Option Handle → Option Holding
held pages None = None
held pages (Some h) = Some (record { pages = pages; name = h.name })

-- the number of pages and the name of a handle; None if it is not in use
abbrev pub holding : Tables → ℕ → Option Holding
holding ems handle = held (page_count ems handle) (slice_index_or ems.handles handle None)

-- ---- windows

-- page i of the list; a page of handle 0 past its end
abbrev pub page_at : List Page → ℕ → Page
page_at pages i = slice_index_or pages i (record { handle = 0; block = 0 })

-- the handle of page i of the list, and the page's logical number: how many pages of that handle stand before it in the
-- list; None for no index
abbrev pub numbers_at : List Page → Option ℕ → Option (ℕ × ℕ)
numbers_at pages None = None
numbers_at pages (Some i) = Some ((page_at pages i).handle, count_by (is_of (page_at pages i).handle) (take i pages))

-- the handle and the logical number of the page with this block; None without a block, or if it is not a page
abbrev pub numbers_of : List Page → Option ℕ → Option (ℕ × ℕ)
numbers_of pages None = None
numbers_of pages (Some block) = numbers_at pages (position (is_block block) pages)

-- the handle and the logical number of the page that a window shows; None if it shows no page
abbrev pub page_shown : Tables → Memory → ℕ → Option (ℕ × ℕ)
page_shown ems m window = numbers_of ems.pages (slice_index_or m.windows window None)
