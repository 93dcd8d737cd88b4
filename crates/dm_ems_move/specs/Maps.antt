-- The map of the frame as bytes (LIM EMS 4.0, function 15; INT 67h function 4Eh): for each window the handle and the
-- logical page that it shows, two words, or FFFFh twice where it shows nothing. (The standard leaves the form open.)
use Rattle.std.specs.Prelude.{ℕ, ◌+◌, ◌*◌, ◌==◌, ◌&&◌, if◌then◌else◌, List, [], ◌∷◌, ◌++◌, slice_get, slice_index_or, Option, Some, None, unwrap_or, Result, Ok, Err}
use Rattle.dm_space.specs.Memory.{Memory}
use Rattle.dm_ems.specs.declared.status.Status.{Status}
use Rattle.dm_ems.specs.declared.status.Status.TheVariants.{NoSubfunction, BadMap}
use Rattle.dm_ems.specs.declared.tables.Page.{Page}
use Rattle.dm_ems.specs.Tables.{Tables, Expanded, blocks_of, with_windows}
use Rattle.dm_ems.specs.Readers.{numbers_of}
use Rattle.dm_ems.specs.Calls.{need, with_memory}
use Rattle.dm_ems.specs.Names.{word_bytes, writing}
use Rattle.dm_space.specs.moves.Buffers.{word_after}

-- ---- from windows to bytes

-- the bytes of the map of these windows, four for each: the handle and the logical page that the window shows, or FFFFh
-- twice, as two words
abbrev pub map_entries : List Page → List (Option ℕ) → List ℕ
map_entries pages [] = []
map_entries pages (window ∷ windows) =
    let n = unwrap_or (numbers_of pages window) (0xFFFF, 0xFFFF) in
    (word_bytes n.0 ++ word_bytes n.1) ++ map_entries pages windows

-- ---- from bytes to windows

-- how the reading of a map goes on with a value: f of the value; None where there is none
abbrev pub when : {A B : Type 0} → Option A → (A → Option B) → Option B
when None f = None
when (Some v) f = f v

-- what a window is to show by the handle and page of a map: Some None for nothing (FFFFh twice); None if the handle
-- is not in use or has no such page
abbrev pub meant : Tables → ℕ → ℕ → Option (Option ℕ)
meant ems handle page =
    if (handle == 0xFFFF) && (page == 0xFFFF) then Some None else
    when (slice_index_or ems.handles handle None) (λ s. when (slice_get (blocks_of ems handle) page)
    (λ block. Some (Some block)))

-- what window k (0 to 3) is to show by the map at segment:offset, whose offsets wrap
abbrev pub meant_at : Tables → Memory → ℕ → ℕ → ℕ → Option (Option ℕ)
meant_at ems m segment offset k = meant ems (word_after m segment offset (4 * k))
    (word_after m segment offset (4 * k + 2))

-- what the four windows are to show by the map at segment:offset; None if an entry is bad
unfoldable pub map_at : Tables → Memory → ℕ → ℕ → Option (List (Option ℕ))
map_at ems m segment offset =
    when (meant_at ems m segment offset 0) (λ first.
    when (meant_at ems m segment offset 1) (λ second.
    when (meant_at ems m segment offset 2) (λ third.
    when (meant_at ems m segment offset 3) (λ fourth.
    Some (first ∷ second ∷ third ∷ fourth ∷ [])))))

-- ---- the call

-- the four windows show these blocks, or nothing; the tables stay
abbrev pub showing_all : Expanded → List (Option ℕ) → Expanded
showing_all x windows = with_memory x (with_windows x.memory windows)

-- the map of what the windows show is written at segment:offset, 16 bytes; the tables, and what the windows show, stay
abbrev pub with_map : Expanded → ℕ → ℕ → Expanded
with_map x segment offset = writing x segment offset (map_entries x.ems.pages x.memory.windows)

-- 4Eh: mode 0 writes the map of the windows at the first address, 1 sets the windows from the map at the second, 2
-- writes at the first and then sets the windows from the second map, which is read before the write, and 3 returns the
-- size of a map in bytes. The tables stay. A map with a bad entry is an error, and so is another mode; an error changes
-- nothing
unfoldable pub whole_map : Expanded → ℕ → ℕ → ℕ → ℕ → ℕ → Result (Option ℕ × Expanded) Status
whole_map x mode to_segment to_offset from_segment from_offset =
    if mode == 0 then Ok (None, with_map x to_segment to_offset) else
    if mode == 1 then need (map_at x.ems x.memory from_segment from_offset) BadMap (λ windows. Ok (
      None,
      showing_all x windows,
    )) else
    if mode == 2 then need (map_at x.ems x.memory from_segment from_offset) BadMap (λ windows. Ok (
      None,
      showing_all (with_map x to_segment to_offset) windows,
    )) else
    if mode == 3 then Ok (Some 16, x) else Err NoSubfunction
