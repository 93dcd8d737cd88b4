-- Definitions for the proofs on consistent tables.
use Rattle.std.specs.Prelude.{◌≢◌, ◌+◌, ◌≤◌, length, count_by, is_some}
use Rattle.dm_ems.specs.declared.tables.Page.{Page}
use Rattle.dm_ems.specs.Tables.{Expanded}

-- two pages have different blocks
abbrev pub HasOtherBlock : Page → Page → Type 0
HasOtherBlock p q = p.block ≢ q.block

-- at most 64 blocks of the pool are not pages: so of its 576 numbers 512 are left for pages
abbrev pub HasNumbers : Expanded → Type 0
HasNumbers x = count_by is_some x.memory.blocks.places ≤ length x.ems.pages + 64
