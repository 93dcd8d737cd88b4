-- What a handle holds: a boxed machine, or nothing.
use Rattle.std.specs.Prelude.{◌≡◌, ℕ, ◌==◌, Option, is_some}
use Rattle.std.specs.Coded.{coded_option}
use base.Stored.{Coded}
use Rattle.dm_host.specs.Hosts.{Hosted}
use Rattle.dm_host.specs.contracts.host.Host.{the_row}

-- that a machine or none can be stored as the ghost value of a handle
abbrev pub held_coded : Coded (Option Hosted)
held_coded = coded_option (the_row).coded

-- the tag of a handle that holds a machine
abbrev pub tag_held : ℕ
tag_held = 0x6D657A67756C6431

-- the tag is `tag_held` exactly if there is a machine
abbrev pub HasItsTag : Option Hosted → ℕ → Type 0
HasItsTag value tag = is_some value ≡ (tag == tag_held)
