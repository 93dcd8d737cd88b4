-- The number of pages of a handle is changed (LIM EMS 4.0, function 18; INT 67h function 51h). Errors are tried in
-- the order in which they are written.
use Rattle.std.specs.Prelude.{ℕ, ◌-◌, nat_lt, if◌then◌else◌, Option, Some, None, Result, Ok}
use Rattle.dm_ems.specs.declared.status.Status.{Status}
use Rattle.dm_ems.specs.declared.status.Status.TheVariants.{UnknownHandle, OverTotal, OverFree}
use Rattle.dm_ems.specs.Tables.{Expanded, page_count, unallocated, appended, cut}
use Rattle.dm_ems.specs.Calls.{need, slot}
use Rattle.dm_ems_move.specs.declared.reallocation.Reallocated.{Reallocated}

-- the result of a reallocation: how many pages the handle has now, and the error if their number was not changed
abbrev pub reallocated : ℕ → Option Status → Reallocated
reallocated pages refused = record { pages = pages; refused = refused }

-- a handle gets n pages: those after its first n are removed, from all windows and saved windows too, or pages of zeros
-- are added after those that it has, each as by `appended_page`
abbrev pub with_count : Expanded → ℕ → ℕ → Expanded
with_count x handle n =
    if nat_lt n (page_count x.ems handle) then cut x handle n else appended x handle (n - page_count x.ems handle)

-- 51h: a handle gets n pages in all, 0 included. If n is over the total, or more pages would have to be added than can
-- be allocated, nothing changes, and the result has the handle's number of pages and the error
unfoldable pub reallocate : Expanded → ℕ → ℕ → Result (Reallocated × Expanded) Status
reallocate x handle n =
    need (slot x handle) UnknownHandle (λ s.
    if nat_lt x.ems.total n then Ok (reallocated (page_count x.ems handle) (Some OverTotal), x) else
    if nat_lt (unallocated x) (n - page_count x.ems handle) then
    Ok (reallocated (page_count x.ems handle) (Some OverFree), x) else
    Ok (reallocated n None, with_count x handle n))
