-- The load of the first file into a new machine. Private contracts and proofs alone name these.
use Rattle.std.specs.Prelude.{ℕ, ◌≡◌, ◌<◌, ◌≤◌, List, [], ◌∷◌, length}
use Rattle.dm_machine.specs.Start.{IsLoaded}
use Rattle.dm_options.specs.declared.command_line.MachineOptions.{MachineOptions}
use Rattle.dm_services.specs.state.State.{State}
use Rattle.dm_cli.specs.declared.fault.Fault.{Fault}
use Rattle.dm_cli.specs.declared.fault.Fault.TheVariants.{TailTooLong, NotFound}
use Rattle.dm_cli.specs.Names.{last_part}
use Rattle.dm_cli.specs.Starting.{IsLoadFault, paths_of}

-- the machine `fresh`, into which the first of the files is loaded with a tail of at most 126 bytes, becomes m
pub record IsFirstLoaded (fresh : State) (paths : List (List ℕ)) (tail : List ℕ) (m : State) : Type 0 where
  pub first : List ℕ
  pub others : List (List ℕ)
  pub is_first : paths ≡ first ∷ others
  pub short : length tail ≤ 126
  pub loaded : IsLoaded fresh (last_part first) tail m

-- a fault of the load, in this order: the tail is too long, there is no first file, or it can't be loaded
pub data IsFirstFault (fresh : State) (o : MachineOptions) : Fault → Type 0 where
  tail_is_long : 126 < length o.tail.now → IsFirstFault fresh o TailTooLong
  no_first : length o.tail.now ≤ 126 → paths_of o ≡ [] → IsFirstFault fresh o NotFound
  first_refused : (first : List ℕ) (others : List (List ℕ)) (fault : Fault) → length o.tail.now ≤ 126 →
      paths_of o ≡ first ∷ others
      → IsLoadFault fresh (last_part first) fault → IsFirstFault fresh o fault
