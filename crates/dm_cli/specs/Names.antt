-- The names of files, which are those of programs in the store.
use Rattle.std.specs.Prelude.{ℕ, ◌<◌, ◌==◌, List, Contains, length}
use Rattle.std.specs.List.{after_last}

-- the part of a path after its last `/`; all of a path that has none
abbrev pub last_part : List ℕ → List ℕ
last_part path = after_last (λ b. b == 47) path

-- a name that a file can have: it is not empty and has no zero byte
abbrev pub IsFileName : List ℕ → Type 0
IsFileName name = (0 < length name) × (¬ Contains name 0)
