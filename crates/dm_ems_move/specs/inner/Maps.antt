-- An entry of the map of the frame, and its bytes.
use Rattle.std.specs.Prelude.{ℕ, List, ◌++◌, Option, unwrap_or}
use Rattle.dm_ems.specs.declared.tables.Page.{Page}
use Rattle.dm_ems.specs.Readers.{numbers_of}
use Rattle.dm_ems.specs.Names.{word_bytes}

-- the handle and the logical page that a window shows; FFFFh twice where it shows no page
abbrev pub numbers : List Page → Option ℕ → ℕ × ℕ
numbers pages window = unwrap_or (numbers_of pages window) (0xFFFF, 0xFFFF)

-- a handle and a logical page as four bytes, two words with the low byte first
abbrev pub map_entry : ℕ × ℕ → List ℕ
map_entry n = word_bytes n.0 ++ word_bytes n.1
