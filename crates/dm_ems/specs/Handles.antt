-- Handles and their pages (LIM EMS 4.0, functions 3, 4, 6, 12 and 13; INT 67h functions 42h, 43h, 45h, 4Bh and 4Ch).
-- Errors are tried in the order in which they are written; an error changes neither tables nor memory.
use Rattle.std.specs.Prelude.{ℕ, nat_lt, ◌==◌, is_some, is_none, position, count_by, if◌then◌else◌, Some, None, Result, Ok, Err}
use Rattle.dm_ems.specs.declared.status.Status.{Status}
use Rattle.dm_ems.specs.declared.status.Status.TheVariants.{NoPages, NoHandleLeft, OverTotal, OverFree, UnknownHandle, ContextSaved}
use Rattle.dm_ems.specs.Tables.{Expanded, unallocated, appended, blank, cut, page_count}
use Rattle.dm_ems.specs.Calls.{need, slot, with_slot}

-- 43h: a new handle, the lowest that is not in use, gets n pages of zeros, fewer only if the pool has no number left;
-- the handle's number is the result. Fails for 0 pages; where no handle is left; for more pages than the total; for
-- more than can still be allocated
unfoldable pub allocate : Expanded → ℕ → Result (ℕ × Expanded) Status
allocate x n =
    if n == 0 then Err NoPages else
    need (position is_none x.ems.handles) NoHandleLeft (λ handle.
    if nat_lt x.ems.total n then Err OverTotal else
    if nat_lt (unallocated x) n then Err OverFree else
    Ok (handle, appended (with_slot x handle (Some blank)) handle n))

-- 45h: a handle and its pages are freed, which leave all windows and saved windows; handle 0 stays in use, with no
-- page and no name. Fails where the handle is not in use, or has saved windows
unfoldable pub deallocate : Expanded → ℕ → Result (Unit {0} × Expanded) Status
deallocate x handle =
    need (slot x handle) UnknownHandle (λ s.
    if is_some s.saved then Err ContextSaved else
    Ok (tt, with_slot (cut x handle 0) handle (if handle == 0 then Some blank else None)))

-- 4Bh: the number of handles in use, handle 0 among them
abbrev pub in_use : Expanded → ℕ
in_use x = count_by is_some x.ems.handles

-- 4Ch: the number of pages of a handle; an error where it is not in use
unfoldable pub count_pages : Expanded → ℕ → Result ℕ Status
count_pages x handle = need (slot x handle) UnknownHandle (λ s. Ok (page_count x.ems handle))
