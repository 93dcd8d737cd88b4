-- The handles of expanded memory as records, and what the windows show.
-- Source: LIM EMS 4.0, section 2.
use Rattle.std.specs.Prelude.{ℕ, Bool, if◌then◌else◌, is_some, List, [], ◌∷◌, slice_index_or, Option, Some, None, option_map}
use Rattle.dm_space.specs.Memory.{Memory}
use Rattle.dm_ems.specs.declared.tables.Handle.{Handle}
use Rattle.dm_ems.specs.Tables.{Tables, page_count}
use Rattle.dm_ems.specs.Readers.{page_shown}
use Rattle.dm_views.specs.declared.inventory.pages.PageHandle.{PageHandle}
use Rattle.dm_views.specs.declared.inventory.pages.Window.{Window}
use Rattle.dm_views.specs.inventory.Records.{records_in_turn}

-- a truth value as a number
abbrev pub truth_number : Bool → ℕ
truth_number b = if b then 1 else 0

-- the record of the handle with this number; none if it is not in use
abbrev pub handle_record : Tables → ℕ → Option PageHandle
handle_record ems number =
    option_map (λ (h : Handle). record {
      number = number;
      pages = page_count ems number;
      name = h.name;
      saved = truth_number (is_some h.saved);
    }) (slice_index_or ems.handles number None)

-- the records of the handles in use, in rising order
abbrev pub handle_records : Tables → List PageHandle
handle_records ems = records_in_turn (handle_record ems) 64

-- what a window shows: a handle and a logical page of it, or nothing
abbrev pub window_record : Option (ℕ × ℕ) → Window
window_record None = record { shows = 0; handle = 0; page = 0 }
window_record (Some shown) = record { shows = 1; handle = shown.0; page = shown.1 }

-- what the four windows show
abbrev pub window_records : Tables → Memory → List Window
window_records ems m = window_record (page_shown ems m 0) ∷ window_record (page_shown ems m 1)
    ∷ window_record (page_shown ems m 2) ∷ window_record (page_shown ems m 3) ∷ []
