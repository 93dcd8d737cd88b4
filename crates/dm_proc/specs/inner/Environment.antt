-- Environments in the scratch part of a space, bytes that no guest address shows. For private contracts and proofs
-- alone.
use Rattle.std.specs.Prelude.{◌≡◌, ℕ, ◌-◌, ◌<◌, List, length, take, ◌⊎◌, ◌∷◌, ◌++◌}
use Rattle.dm_space.specs.Memory.{Memory}
use Rattle.dm_proc.specs.Environment.{environment, AreVariables}

-- the first n scratch bytes are the variables of the environment at a segment, fewer than 8000h
pub record IsRead (m : Memory) (segment n : ℕ) (scratch : List ℕ) : Type 0 where
  pub variables : AreVariables m segment (take n scratch)
  pub few : n < 0x8000

-- the first n scratch bytes are a new environment with this name and with the variables of the environment at a
-- segment
pub record IsMade (m : Memory) (segment : ℕ) (name : List ℕ) (n : ℕ) (scratch : List ℕ) : Type 0 where
  pub variables : List ℕ
  pub old : AreVariables m segment variables
  pub bytes : take n scratch ≡ environment variables name
  pub whole : n ≡ length (environment variables name)
  pub fits : n < 0x8100
