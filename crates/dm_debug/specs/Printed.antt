-- What a command prints, as a writer into memory takes it.
use Rattle.std.specs.Prelude.{ℕ, List}

-- a writer into memory: the bytes that it has taken, and how many writes failed because an allocation did
pub record Collected : Type 0 where
  pub bytes : List ℕ
  pub failures : ℕ
