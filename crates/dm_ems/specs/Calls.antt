-- What calls of the expanded memory driver return, and the tables and memory that they leave. A call is one value: an
-- error, or a result together with the state after it; so a call that fails changes nothing.
use Rattle.std.specs.Prelude.{ℕ, slice_index_or, slice_set, Option, Some, None, Result, Ok, Err}
use Rattle.dm_space.specs.Memory.{Memory}
use Rattle.dm_ems.specs.declared.status.Status.{Status}
use Rattle.dm_ems.specs.declared.tables.Handle.{Handle}
use Rattle.dm_ems.specs.Tables.{Expanded}

-- the result of a call, without the state after it
abbrev pub result_of : {A : Type 0} → Result (A × Expanded) Status → Result A Status
result_of (Ok w) = Ok w.0
result_of (Err e) = Err e

-- the state after a call from x; x itself if the call fails
abbrev pub state_after : {A : Type 0} → Expanded → Result (A × Expanded) Status → Expanded
state_after x (Ok w) = w.1
state_after x (Err e) = x

-- how a call goes on with a value that it needs, such as a handle's entry: f of the value, or the error e where there
-- is none
abbrev pub need : {A B : Type 0} → Option A → Status → (A → Result B Status) → Result B Status
need None e f = Err e
need (Some v) e f = f v

-- the entry of a handle in the table: its name and saved windows; None if the handle is not in use, or there is no
-- such handle
abbrev pub slot : Expanded → ℕ → Option Handle
slot x handle = slice_index_or x.ems.handles handle None

-- the tables with another entry for this handle, which is 0 to 63, None if it is no longer in use; its pages and memory
-- stay
abbrev pub with_slot : Expanded → ℕ → Option Handle → Expanded
with_slot x handle s = record x { ems = record x.ems { handles = slice_set x.ems.handles handle s } }

-- expanded memory with another memory; the tables stay
abbrev pub with_memory : Expanded → Memory → Expanded
with_memory x m = record x { memory = m }
