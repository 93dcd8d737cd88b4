-- The listing of expanded memory: the handles in use, and what the windows show.
-- Source: LIM EMS 4.0, section 2. The form is this machine's own.
use Rattle.std.specs.Prelude.{ℕ, List, [], ◌∷◌, ◌++◌, codes, Option, Some, None}
use Rattle.std.specs.List.{flat_map}
use Rattle.std.specs.Option.{option_map_or}
use Rattle.dm_space.specs.Memory.{Memory}
use Rattle.dm_decode.specs.Pieces.{digit}
use Rattle.dm_ems.specs.declared.readers.Holding.{Holding}
use Rattle.dm_ems.specs.Tables.{Tables}
use Rattle.dm_ems.specs.Readers.{holding, page_shown}
use Rattle.dm_views.specs.Digits.{two_digits, four_digits, in_turn}

-- ---- handles

-- the line of a handle in use: its number, how many pages it has, and the eight bytes of its name, all in hexadecimal
abbrev pub holding_text : ℕ → Holding → List ℕ
holding_text number h = four_digits number ++ codes " " ++ four_digits h.pages ++ codes " "
    ++ flat_map two_digits h.name ++ 10 ∷ []

-- the line of the handle with this number; no text if it is not in use
abbrev pub handle_text : Tables → ℕ → List ℕ
handle_text ems number = option_map_or (holding_text number) (holding ems number) []

-- ---- windows

-- the end of a window's line: the handle and the logical page that it shows, or `none`
abbrev pub shown_text : Option (ℕ × ℕ) → List ℕ
shown_text None = codes "none" ++ 10 ∷ []
shown_text (Some n) = four_digits n.0 ++ codes " " ++ four_digits n.1 ++ 10 ∷ []

-- the line of a window: its number, and the handle and the logical page that it shows, or `none`
abbrev pub window_line : ℕ → Option (ℕ × ℕ) → List ℕ
window_line number page = codes "window " ++ (digit number ∷ 32 ∷ []) ++ shown_text page

-- the line of the window with this number
abbrev pub window_text : Tables → Memory → ℕ → List ℕ
window_text ems m number = window_line number (page_shown ems m number)

-- ---- all of it

-- the listing of expanded memory: a line for each of the 64 handles that is in use, and one for each of the four
-- windows
abbrev pub pages_text : Tables → Memory → List ℕ
pages_text ems m = in_turn (handle_text ems) 64 ++ in_turn (window_text ems m) 4
