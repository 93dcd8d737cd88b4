-- How the definitions of the calls 50h and 57h join one step to the next.
use Rattle.std.specs.Prelude.{Result, Ok, Err}
use Rattle.dm_ems.specs.declared.status.Status.{Status}

-- f of the result of a step that succeeds; the error of one that fails
abbrev pub and_then : {A B : Type 0} → Result A Status → (A → Result B Status) → Result B Status
and_then (Ok v) f = f v
and_then (Err e) f = Err e
