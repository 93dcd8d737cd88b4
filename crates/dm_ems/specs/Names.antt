-- Lists of handles, and their names (LIM EMS 4.0, functions 14, 20 and 21; INT 67h functions 4Dh, 53h and 54h).
-- Errors are tried in the order in which they are written; an error changes neither tables nor memory.
use Rattle.std.specs.Prelude.{suc, zero, ℕ, ◌/◌, ◌%◌, Bool, false, nat_eq, position, if◌then◌else◌, List, [], ◌∷◌, ◌++◌, slice_set, Option, Some, None, Result, Ok, Err}
use Rattle.std.specs.Cmp.Lexicographic.{pointwise}
use Rattle.std.specs.List.{list_any}
use Rattle.dm_space.specs.Buffers.{with_bytes}
use Rattle.dm_space.specs.EightBytes.{eight_after}
use Rattle.dm_ems.specs.declared.status.Status.{Status}
use Rattle.dm_ems.specs.declared.status.Status.TheVariants.{UnknownHandle, NameTaken, NameNotFound}
use Rattle.dm_ems.specs.declared.tables.Handle.{Handle}
use Rattle.dm_ems.specs.Tables.{Tables, Expanded, page_count, no_name}
use Rattle.dm_ems.specs.Calls.{need, slot, with_slot, with_memory}
use Rattle.dm_ems.specs.Handles.{in_use}

-- a word of a list, of the frame or of a map as two bytes, low byte first
abbrev pub word_bytes : ℕ → List ℕ
word_bytes w = w % 256 ∷ w / 256 ∷ []

-- the entries of handles 0 to n - 1, one after the other: the lists f 0, f 1 and so on, n of them
abbrev pub in_turn : (ℕ → List ℕ) → ℕ → List ℕ
in_turn f zero = []
in_turn f (suc n) = in_turn f n ++ f n

-- the bytes are written to memory from segment:offset on, where offsets wrap; the tables stay
abbrev pub writing : Expanded → ℕ → ℕ → List ℕ → Expanded
writing x segment offset bytes = with_memory x (with_bytes x.memory segment offset bytes)

-- the entry of a handle in the list of 4Dh: its number and its number of pages, two words; nothing if it is not in
-- use
abbrev pub page_entry : Tables → ℕ → Option Handle → List ℕ
page_entry ems handle None = []
page_entry ems handle (Some s) = word_bytes handle ++ word_bytes (page_count ems handle)

-- 4Dh: the `page_entry` of each handle in use, in ascending order, are written at segment:offset; the result is the
-- number of handles in use. The tables stay
unfoldable pub list_pages : Expanded → ℕ → ℕ → (ℕ × Expanded)
list_pages x segment offset =
    (in_use x, writing x segment offset (in_turn (λ handle. page_entry x.ems handle (slot x handle)) 64))

-- the entry of a handle in the list of 54h: its number, a word, and its name, eight bytes; nothing if it is not in
-- use
abbrev pub name_entry : ℕ → Option Handle → List ℕ
name_entry handle None = []
name_entry handle (Some s) = word_bytes handle ++ s.name

-- 54h, AL = 0: the `name_entry` of each handle in use, in ascending order, are written at segment:offset; the result is
-- the number of handles in use. The tables stay
unfoldable pub list_names : Expanded → ℕ → ℕ → (ℕ × Expanded)
list_names x segment offset =
    (in_use x, writing x segment offset (in_turn (λ handle. name_entry handle (slot x handle)) 64))

-- the name is eight zeros: a handle with it has no name
abbrev pub is_no_name : List ℕ → Bool
is_no_name name = pointwise nat_eq name no_name

-- the handle is in use, and has this name
abbrev pub has_name : List ℕ → Option Handle → Bool
has_name name None = false
has_name name (Some s) = pointwise nat_eq s.name name

-- a handle in use other than this one has the name; false for eight zeros
unfoldable pub is_name_of_other : Tables → ℕ → List ℕ → Bool
is_name_of_other ems handle name = if is_no_name name then false else
    list_any (has_name name) (slice_set ems.handles handle None)

-- 53h, AL = 0: the eight bytes of a handle's name are written at segment:offset; the tables stay. An error where the
-- handle is not in use
unfoldable pub get_name : Expanded → ℕ → ℕ → ℕ → Result (Unit {0} × Expanded) Status
get_name x handle segment offset =
    need (slot x handle) UnknownHandle (λ s. Ok (tt, writing x segment offset s.name))

-- 53h, AL = 1: a handle gets the eight bytes at segment:offset as its name, eight zeros for none; its pages and saved
-- windows, and memory, stay. An error where the handle is not in use, or another has the name
unfoldable pub set_name : Expanded → ℕ → ℕ → ℕ → Result (Unit {0} × Expanded) Status
set_name x handle segment offset =
    need (slot x handle) UnknownHandle (λ s.
    if is_name_of_other x.ems handle (eight_after x.memory segment offset) then Err NameTaken else
    Ok (tt, with_slot x handle (Some (record s { name = eight_after x.memory segment offset }))))

-- 54h, AL = 1: the lowest handle with the name at segment:offset, an error where there is none; eight zeros are refused
-- as `NameTaken`
unfoldable pub find_name : Expanded → ℕ → ℕ → Result ℕ Status
find_name x segment offset =
    if is_no_name (eight_after x.memory segment offset) then Err NameTaken else
    need (position (has_name (eight_after x.memory segment offset)) x.ems.handles) NameNotFound (λ handle. Ok handle)
