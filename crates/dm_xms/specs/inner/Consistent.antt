-- Definitions for the proofs on consistent tables.
use Rattle.std.specs.Prelude.{◌≢◌, Option, IfSome}
use Rattle.dm_xms.specs.declared.tables.Handle.{Handle}

-- t is None, the entry of a handle that is not in use, or has another block than s
abbrev pub HasOther : Handle → Option Handle → Type 0
HasOther s t = IfSome t (λ other. other.block ≢ s.block)
