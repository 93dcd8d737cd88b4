-- Many pages mapped by one call (LIM EMS 4.0, function 17; INT 67h function 50h). Errors are tried in the order in
-- which they are written.
use Rattle.std.specs.Prelude.{suc, zero, ℕ, ◌+◌, ◌-◌, ◌*◌, ◌/◌, ◌%◌, Bool, true, false, nat_lt, nat_le, ◌==◌, ◌&&◌, if◌then◌else◌, List, slice_get, slice_set, Option, Some, None, Result, Ok, Err}
use Rattle.dm_space.specs.Memory.{Memory}
use Rattle.dm_ems.specs.declared.status.Status.{Status}
use Rattle.dm_ems.specs.declared.status.Status.TheVariants.{UnknownHandle, NoSubfunction, NoSuchPage, NoSuchWindow}
use Rattle.dm_ems.specs.Tables.{Expanded, blocks_of, with_windows}
use Rattle.dm_ems.specs.Calls.{need, slot, with_memory}
use Rattle.dm_space.specs.moves.Buffers.{word_after}
use Rattle.dm_ems_move.specs.Steps.{and_then}

-- the window, 0 to 3, that a value names: by its segment (true), E000h, E400h, E800h or EC00h, or by its number
-- (false); None if there is no such window
abbrev pub window_of : Bool → ℕ → Option ℕ
window_of true value = if nat_le 0xE000 value && nat_lt value 0xF000 && (value % 0x400 == 0) then
    Some ((value - 0xE000) / 0x400) else None
window_of false value = if nat_lt value 4 then Some value else None

-- what the four windows show after one pair of the call: the window that `value` names shows logical page `page` of
-- the handle with these blocks, or nothing for FFFFh
unfoldable pub paired : List ℕ → Bool → ℕ → ℕ → List (Option ℕ) → Result (List (Option ℕ)) Status
paired blocks by_segment page value windows =
    need (window_of by_segment value) NoSuchWindow (λ window.
    if page == 0xFFFF then Ok (slice_set windows window None) else
    need (slice_get blocks page) NoSuchPage (λ block.
    Ok (slice_set windows window (Some block))))

-- what the windows show after the first n pairs at segment:offset, two words each, a logical page and a window; or
-- the error of the first bad one
abbrev pub after_pairs : Memory → List ℕ → Bool → ℕ → ℕ → ℕ → Result (List (Option ℕ)) Status
after_pairs m blocks by_segment segment offset zero = Ok m.windows
after_pairs m blocks by_segment segment offset (suc n) =
    and_then (after_pairs m blocks by_segment segment offset n)
    (paired blocks by_segment (word_after m segment offset (4 * n)) (word_after m segment offset (4 * n + 2)))

-- 50h: windows, named by numbers (mode 0) or by segments (mode 1), show pages of a handle, as `count` pairs at
-- segment:offset say; a window that no pair names, and the tables, stay. An error, which changes nothing, for another
-- mode, a handle that is not in use, or the first bad pair
unfoldable pub map_many : Expanded → ℕ → ℕ → ℕ → ℕ → ℕ → Result (Unit {0} × Expanded) Status
map_many x mode handle count segment offset =
    if nat_lt 1 mode then Err NoSubfunction else
    need (slot x handle) UnknownHandle (λ s.
    and_then (after_pairs x.memory (blocks_of x.ems handle) (mode == 1) segment offset count) (λ windows.
    Ok (tt, with_memory x (with_windows x.memory windows))))
