-- The machine that `dm run`, `dm check`, `dm debug` and `dm gdb` begin with, and the first fault that keeps them from
-- it.
use Rattle.std.specs.Prelude.{ℕ, ◌≡◌, ◌<◌, ◌≤◌, ◌++◌, List, [], ◌∷◌, Option, None, IsSomeAnd, map, option_map, length}
use Rattle.dm_options.specs.declared.command_line.DebugOptions.{DebugOptions}
use Rattle.dm_options.specs.declared.command_line.MachineOptions.{MachineOptions}
use Rattle.dm_pool.specs.declared.sizes.Sizes.{Sizes}
use Rattle.dm_pool.specs.Stored.{IsTooLarge}
use Rattle.dm_services.specs.state.State.{State}
use Rattle.dm_machine.specs.Start.{IsNew, IsBadProgram, HasNoRoom}
use Rattle.dm_proc.specs.Programs.{IsName, program_of}
use Rattle.dm_cli.specs.declared.fault.Fault.{Fault}
use Rattle.dm_cli.specs.declared.fault.Fault.TheVariants.{OutOfMemory, TooLarge, TailTooLong, NotFound, BadFormat, Short}
use Rattle.dm_cli.specs.Names.{last_part}
use Rattle.dm_cli.specs.Stores.{IsFaultOf, IsInputFault, IsRead, IsStarted, Stores, bytes_if_any}

-- the sizes of expanded memory (pages) and extended memory (KiB) that the options ask for
abbrev pub sizes_of : MachineOptions → Sizes
sizes_of o = record { ems_pages = o.ems_pages; xms_kib = o.xms_kib }

-- the paths of the argument FILES, in their order
abbrev pub paths_of : MachineOptions → List (List ℕ)
paths_of o = map (λ path. path.now) o.files.items

-- m is the machine that the options ask for, with its first program loaded: `files` is what files hold, by their paths,
-- and `typed` the console input, each where it is known
abbrev pub IsStartedBy : (List ℕ → Option (List ℕ)) → Option (List ℕ) → MachineOptions → State → Type 0
IsStartedBy files typed o m = IsStarted files typed (sizes_of o) o.upper (paths_of o) o.tail.now m

-- the console input of `dm debug` and `dm gdb`, where it is known: the file of `--input`, or nothing
abbrev pub typed_in : (List ℕ → Option (List ℕ)) → DebugOptions → Option (List ℕ)
typed_in files o = bytes_if_any files (option_map (λ path. path.now) o.input)

-- ---- faults

-- the fault of a load of the first program: the store has none of its name, it is no COM or MZ program, or memory has
-- no room for it. (The last line is for names that no program of a store can have: then any other fault.)
abbrev pub IsLoadFault : State → List ℕ → Fault → Type 0
IsLoadFault fresh name NotFound = program_of fresh.programs name ≡ None
IsLoadFault fresh name BadFormat = IsBadProgram fresh name
IsLoadFault fresh name Short = HasNoRoom fresh name
IsLoadFault fresh name _ = ¬ IsName name

-- the first fault of a machine over a store and an input, in this order: its sizes are too large, the tail is too long,
-- there is no first file, or that can't be loaded; or, at any point, an allocation failed
pub data IsMachineFault (store : List (List ℕ × List ℕ)) (input : List ℕ) (o : MachineOptions) : Fault → Type 0 where
  too_large : IsTooLarge (sizes_of o) → IsMachineFault store input o TooLarge
  long_tail : (fresh : State) → ¬ IsTooLarge (sizes_of o) → IsNew (sizes_of o) [] o.upper store input fresh →
      126 < length o.tail.now → IsMachineFault store input o TailTooLong
  no_file : (fresh : State) → ¬ IsTooLarge (sizes_of o) → IsNew (sizes_of o) [] o.upper store input fresh →
      length o.tail.now ≤ 126 → paths_of o ≡ []
      → IsMachineFault store input o NotFound
  not_loaded : (fresh : State) (first : List ℕ) (others : List (List ℕ)) (fault : Fault) → ¬ IsTooLarge (sizes_of o) →
      IsNew (sizes_of o) [] o.upper store input fresh
      → length o.tail.now ≤ 126 → paths_of o ≡ first ∷ others → IsLoadFault fresh (last_part first) fault →
      IsMachineFault store input o fault
  no_memory : IsMachineFault store input o OutOfMemory

-- the first fault of the files at these paths, in their order
pub record IsFileFault (files : List ℕ → Option (List ℕ)) (paths : List (List ℕ)) (fault : Fault) : Type 0 where
  pub before : List (List ℕ)
  pub path : List ℕ
  pub behind : List (List ℕ)
  pub is : paths ≡ before ++ path ∷ behind
  pub store : List (List ℕ × List ℕ)
  pub stores : Stores files before store
  pub faulty : IsFaultOf (files path) store path fault

-- the first fault that keeps a command from its machine: of the files in their order; of the console input, which is
-- read under this name (None: it is not read); of the machine
pub data IsStartFault (files : List ℕ → Option (List ℕ)) (typed : Option (List ℕ)) (name : Option (List ℕ))
    (o : MachineOptions) : Fault → Type 0 where
  of_file : (fault : Fault) → IsFileFault files (paths_of o) fault → IsStartFault files typed name o fault
  of_input : (store : List (List ℕ × List ℕ)) (fault : Fault) → Stores files (paths_of o) store →
      IsSomeAnd name (λ input. IsInputFault typed input fault)
      → IsStartFault files typed name o fault
  of_machine : (store : List (List ℕ × List ℕ)) (input : List ℕ) (fault : Fault) → Stores files (paths_of o) store →
      IsRead typed input
      → IsMachineFault store input o fault → IsStartFault files typed name o fault
