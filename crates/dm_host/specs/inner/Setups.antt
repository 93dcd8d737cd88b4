-- The invariant of `Setup`, and the test of a program. Private contracts and proofs alone name these.
use Rattle.std.specs.Prelude.{ℕ, ◌≤◌, List, Result, Ok, Err, length}
use Rattle.dm_pool.specs.Stored.{IsTooLarge}
use Rattle.dm_host.specs.declared.refusal.Refusal.{Refusal}
use Rattle.dm_host.specs.Setups.{Prepared, IsNoProgram, IsLoadable}

-- the sizes and variables of the setup are within their limits: at most 512 pages, 15,360 KiB, and 32,767 bytes of
-- variables
pub record IsPrepared (s : Prepared) : Type 0 where
  pub few : IsTooLarge s.sizes → ⊥
  pub short : length s.variables ≤ 0x7FFF

-- whether the setup has a program of this name that can be loaded, or why not
abbrev pub IsTested : Prepared → List ℕ → Result (Unit {0}) Refusal → Type 0
IsTested s name (Ok x) = IsLoadable s name
IsTested s name (Err e) = IsNoProgram s name e
