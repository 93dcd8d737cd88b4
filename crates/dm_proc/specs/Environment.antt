-- The environment of a process, and how its variables are read from guest memory. MS-DOS Programmer's Reference,
-- "Environment". An environment's segment is given as it stands in a prefix or in a parameter block.
use Rattle.std.specs.Prelude.{◌≡◌, ℕ, ◌-◌, ◌<◌, ◌⊎◌, List, [], ◌∷◌, ◌++◌}
use Rattle.dm_space.specs.Memory.{Memory, linear, peek}
use Rattle.dm_proc.specs.Writes.{bytes_from}

-- the zeros after the variables of an environment: one, or two if there are no variables
abbrev pub closing : List ℕ → List ℕ
closing [] = 0 ∷ 0 ∷ []
closing (b ∷ bs) = 0 ∷ []

-- the bytes of a new environment: the variables, each ended by a zero; the zeros that close the list; the word 1; and
-- the program's name as it was asked for, ended by a zero
abbrev pub environment : List ℕ → List ℕ → List ℕ
environment variables name = variables ++ (closing variables ++ (1 ∷ 0 ∷ []) ++ name ++ (0 ∷ []))

-- the byte at segment:k, of an environment
abbrev pub byte_at_offset : Memory → ℕ → ℕ → ℕ
byte_at_offset m segment k = peek m (linear m.a20 segment k)

-- an empty string begins at segment:k: the byte is zero, and so is the byte before it, if k is not 0
abbrev pub IsEnd : Memory → ℕ → ℕ → Type 0
IsEnd m segment k = (byte_at_offset m segment k ≡ 0) × (0 < k → byte_at_offset m segment (k - 1) ≡ 0)

-- the variables, each with its zero, are the first n bytes of the segment: the first empty string begins at offset n,
-- below 8000h
pub record IsEnvironment (m : Memory) (segment n : ℕ) : Type 0 where
  pub ends : IsEnd m segment n
  pub first : (k : ℕ) → k < n → IsEnd m segment k → ⊥
  pub within : n < 0x8000

-- no empty string begins in the first 32,768 bytes of the segment
abbrev pub HasNoEnd : Memory → ℕ → Type 0
HasNoEnd m segment = (k : ℕ) → k < 0x8000 → IsEnd m segment k → ⊥

-- `variables` are the bytes of the variables in the environment at a segment, each ended by a zero; segment 0 stands
-- for an environment without variables
abbrev pub AreVariables : Memory → ℕ → List ℕ → Type 0
AreVariables m segment variables =
    ((segment ≡ 0) × (variables ≡ [])) ⊎ ((0 < segment) × ((n : ℕ) × IsEnvironment m segment n ×
    (variables ≡ bytes_from m segment 0 n)))

-- the segment is not 0, and the environment there has no end in its first 32,768 bytes
abbrev pub NoVariables : Memory → ℕ → Type 0
NoVariables m segment = (0 < segment) × HasNoEnd m segment
