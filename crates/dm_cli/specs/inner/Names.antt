-- Paths without a name in the store. Private contracts and proofs alone name this.
use Rattle.std.specs.Prelude.{ℕ, ◌≡◌, ◌<◌, ◌⊎◌, List, length}
use Rattle.dm_cli.specs.declared.fault.Fault.{Fault}
use Rattle.dm_cli.specs.declared.fault.Fault.TheVariants.{NameTooLong}
use Rattle.dm_cli.specs.Faults.{IsUnread}
use Rattle.dm_cli.specs.Names.{IsFileName, last_part}

-- the fault of a path whose file has no name in the store: `CannotRead` if the last part of the path can name no file,
-- `NameTooLong` if that part has more than 64 bytes
abbrev pub IsNameFault : List ℕ → Fault → Type 0
IsNameFault path fault =
    (IsUnread path fault × ¬ IsFileName (last_part path))
    ⊎ ((fault ≡ NameTooLong) × IsFileName (last_part path) × (64 < length (last_part path)))
