-- What a command starts with: the store of the files, the console input, and the machine with its first program loaded.
use Rattle.std.specs.Prelude.{ℕ, ◌≡◌, ◌<◌, ◌≤◌, ◌++◌, ◌⊎◌, List, [], ◌∷◌, Option, Some, None, IfSome, length, Bool, true, false}
use Rattle.dm_cli.specs.declared.fault.Fault.{Fault}
use Rattle.dm_cli.specs.declared.fault.Fault.TheVariants.{InputTooLong, NameTooLong, NameTwice, OutOfMemory}
use Rattle.dm_cli.specs.Faults.{IsUnread}
use Rattle.dm_cli.specs.Names.{IsFileName, last_part}
use Rattle.dm_machine.specs.Start.{IsNew, IsLoaded}
use Rattle.dm_proc.specs.Programs.{IsName, has_program}
use Rattle.dm_pool.specs.declared.sizes.Sizes.{Sizes}
use Rattle.dm_pool.specs.Stored.{IsTooLarge}
use Rattle.dm_services.specs.state.State.{State}

-- these are all bytes of a file or of standard input, at most 16 MiB; `known` is what it holds, where that is known
pub record IsRead (known : Option (List ℕ)) (bytes : List ℕ) : Type 0 where
  pub all : IfSome known (λ xs. bytes ≡ xs)
  pub short : length bytes ≤ 16777216

-- the file at the path, with its bytes, is added at the end of the store, which becomes t. Its name is the last part of
-- the path, which no program of the store has, ASCII case ignored; `known` is what the file holds, where that is known
pub record AddsFile (known : Option (List ℕ)) (store : List (List ℕ × List ℕ)) (path : List ℕ) (t : List (List ℕ ×
    List ℕ)) : Type 0 where
  pub bytes : List ℕ
  pub read : IsRead known bytes
  pub name : IsName (last_part path)
  pub once : has_program store (last_part path) ≡ false
  pub added : t ≡ store ++ (last_part path, bytes) ∷ []

-- this is the store of the files at these paths, in their order; `known` is what files hold, where that is known
pub data Stores (known : List ℕ → Option (List ℕ)) : List (List ℕ) → List (List ℕ × List ℕ) → Type 0 where
  none : Stores known [] []
  more : (paths : List (List ℕ)) (path : List ℕ) (s t : List (List ℕ × List ℕ)) → Stores known paths s →
      AddsFile (known path) s path t → Stores known (paths ++ path ∷ []) t

-- a fault of the input with this name: it can't be read, an allocation failed, or it has more than 16 MiB
abbrev pub IsInputFault : Option (List ℕ) → List ℕ → Fault → Type 0
IsInputFault known name fault = IsUnread name fault ⊎ (fault ≡ OutOfMemory) ⊎ ((fault ≡ InputTooLong) ×
    IfSome known (λ xs. 16777216 < length xs))

-- a fault of the file at the path, which is to be added to the store: its path names no file; it can't be read, or it
-- is too long; its name is too long; the store has its name already; or an allocation failed. The file is opened only
-- if its path names one, and the faults of its name come only once it was read
pub data IsFaultOf (known : Option (List ℕ)) (store : List (List ℕ × List ℕ)) (path : List ℕ) : Fault → Type 0 where
  nameless : (fault : Fault) → ¬ IsFileName (last_part path) → IsUnread path fault → IsFaultOf known store path fault
  not_read : (fault : Fault) → IsFileName (last_part path) → IsInputFault known path fault →
      IsFaultOf known store path fault
  long_name : (bytes : List ℕ) → IsFileName (last_part path) → IsRead known bytes → 64 < length (last_part path) →
      IsFaultOf known store path NameTooLong
  twice : (bytes : List ℕ) → IsRead known bytes → IsName (last_part path) → has_program store (last_part path) ≡ true →
      IsFaultOf known store path NameTwice
  no_memory : IsFaultOf known store path OutOfMemory

-- m is a new machine of these sizes, which are not too large, with upper memory in its arena if `upper`, no variables,
-- and this store and input, in which the first program is loaded with a tail of at most 126 bytes
pub record IsBegun (store : List (List ℕ × List ℕ)) (input : List ℕ) (sizes : Sizes) (upper : Bool)
    (paths : List (List ℕ)) (tail : List ℕ) (m : State) : Type 0 where
  pub small : ¬ IsTooLarge sizes
  pub fresh : State
  pub new : IsNew sizes [] upper store input fresh
  pub first : List ℕ
  pub others : List (List ℕ)
  pub is_first : paths ≡ first ∷ others
  pub short : length tail ≤ 126
  pub loaded : IsLoaded fresh (last_part first) tail m

-- m is the machine that a command begins with: over the files at the paths, with `typed` as its console input, and the
-- first program loaded. `known` is what files hold, where that is known
pub record IsStarted (known : List ℕ → Option (List ℕ)) (typed : Option (List ℕ)) (sizes : Sizes) (upper : Bool)
    (paths : List (List ℕ)) (tail : List ℕ) (m : State) : Type 0 where
  pub store : List (List ℕ × List ℕ)
  pub stores : Stores known paths store
  pub input : List ℕ
  pub read : IsRead typed input
  pub begun : IsBegun store input sizes upper paths tail m

-- the bytes of the file at a path, where they are known; no bytes if there is no path
abbrev pub bytes_if_any : (List ℕ → Option (List ℕ)) → Option (List ℕ) → Option (List ℕ)
bytes_if_any known None = Some []
bytes_if_any known (Some path) = known path
