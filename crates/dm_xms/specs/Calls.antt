-- What calls of the extended memory driver return, and the state S that they leave, tables or tables and memory. A
-- call is one value: an error, or a result together with the state after it; so a call that fails changes nothing. 04h
-- and 06h, which can change the state and fail all the same, are pairs of a result and a state instead (`Line`).
use Rattle.std.specs.Prelude.{ℕ, ◌-◌, ◌==◌, if◌then◌else◌, slice_index_or, slice_set, Option, Some, None, Result, Ok, Err}
use Rattle.dm_xms.specs.declared.tables.Handle.{Handle}
use Rattle.dm_xms.specs.Tables.{Tables}

-- the result of a call, without the state after it
abbrev pub result_of : {A S E : Type 0} → Result (A × S) E → Result A E
result_of (Ok w) = Ok w.0
result_of (Err e) = Err e

-- the state after a call from x; x itself if the call fails
abbrev pub state_after : {A S E : Type 0} → S → Result (A × S) E → S
state_after x (Ok w) = w.1
state_after x (Err e) = x

-- how a call goes on with a value that it needs, such as a handle's entry: f of the value, or the error e where there
-- is none
abbrev pub need : {A B E : Type 0} → Option A → E → (A → Result B E) → Result B E
need None e f = Err e
need (Some v) e f = f v

-- the entry of a handle in the table; None if the handle is not in use, or there is no such handle. The first is
-- handle 1
abbrev pub slot : Tables → ℕ → Option Handle
slot xms handle = if handle == 0 then None else slice_index_or xms.handles (handle - 1) None

-- the tables with another entry for this handle, which is 1 to 64; None if it is no longer in use. The other entries
-- stay
abbrev pub with_slot : Tables → ℕ → Option Handle → Tables
with_slot xms handle s = record xms { handles = slice_set xms.handles (handle - 1) s }
