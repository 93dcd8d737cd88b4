-- The windows of the frame (LIM EMS 4.0, functions 5, 8 and 9; INT 67h functions 44h, 47h and 48h). Errors are tried
-- in the order in which they are written; an error changes neither tables nor memory.
use Rattle.std.specs.Prelude.{ℕ, nat_le, ◌==◌, is_some, if◌then◌else◌, slice_get, Option, Some, None, Result, Ok, Err}
use Rattle.dm_space.specs.Memory.{with_window}
use Rattle.dm_ems.specs.declared.status.Status.{Status}
use Rattle.dm_ems.specs.declared.status.Status.TheVariants.{UnknownHandle, NoSuchWindow, NoSuchPage, SavedAlready, NoneSaved}
use Rattle.dm_ems.specs.Tables.{Expanded, blocks_of, with_windows}
use Rattle.dm_ems.specs.Calls.{need, slot, with_slot, with_memory}

-- the window, 0 to 3, shows a block of the pool, or nothing; the other windows, and the tables, stay
abbrev pub showing : Expanded → ℕ → Option ℕ → Expanded
showing x window block = with_memory x (with_window x.memory window block)

-- 44h: a window shows a logical page of a handle, or nothing with page FFFFh; the other windows, and the tables, stay.
-- An error if there is no such handle, window (0 to 3) or page
unfoldable pub map_page : Expanded → ℕ → ℕ → ℕ → Result (Unit {0} × Expanded) Status
map_page x window page handle =
    need (slot x handle) UnknownHandle (λ s.
    if nat_le 4 window then Err NoSuchWindow else
    if page == 0xFFFF then Ok (tt, showing x window None) else
    need (slice_get (blocks_of x.ems handle) page) NoSuchPage (λ block.
    Ok (tt, showing x window (Some block))))

-- 47h: what the four windows show is saved under a handle; memory stays. An error if there is no such handle, or it has
-- saved windows already
unfoldable pub save_map : Expanded → ℕ → Result (Unit {0} × Expanded) Status
save_map x handle =
    need (slot x handle) UnknownHandle (λ s.
    if is_some s.saved then Err SavedAlready else
    Ok (tt, with_slot x handle (Some (record s { saved = Some x.memory.windows }))))

-- 48h: the four windows show what was saved under a handle, which then has nothing saved. An error if there is no such
-- handle, or it has nothing saved
unfoldable pub restore_map : Expanded → ℕ → Result (Unit {0} × Expanded) Status
restore_map x handle =
    need (slot x handle) UnknownHandle (λ s.
    need s.saved NoneSaved (λ windows.
    Ok (tt, with_slot (with_memory x (with_windows x.memory windows)) handle (Some (record s { saved = None })))))
