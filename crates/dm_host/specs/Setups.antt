-- What a host's machine is made from, and why making a host, adding a program or loading one fails.
use Rattle.std.specs.Prelude.{◌≡◌, ℕ, ◌<◌, ◌≤◌, Bool, false, true, List, [], ◌∷◌, ◌++◌, Some, None, length}
use Rattle.dm_pool.specs.declared.sizes.Sizes.{Sizes}
use Rattle.dm_pool.specs.Stored.{IsTooLarge}
use Rattle.dm_proc.specs.Programs.{IsName, has_program, program_of}
use Rattle.dm_load.specs.Image.{IsGood}
use Rattle.dm_host.specs.declared.refusal.Refusal.{Refusal}
use Rattle.dm_host.specs.declared.refusal.Refusal.TheVariants.{TooLarge, VariablesTooLong, Memory, BadName, NameTwice, NotFound, BadFormat}

-- a setup: memory sizes, the variables of the first program's environment with their zeros, whether upper memory
-- belongs to the arena, and the programs (names and files)
pub record Prepared : Type 0 where
  pub sizes : Sizes
  pub variables : List ℕ
  pub upper : Bool
  pub programs : List (List ℕ × List ℕ)

-- the setup with one more program, at the end of its store
abbrev pub added : Prepared → List ℕ → List ℕ → Prepared
added s name bytes = record s { programs = s.programs ++ (name, bytes) ∷ [] }

-- why no setup is made of these sizes and variables, in this order: sizes too large, variables too long, a failed
-- allocation
abbrev pub IsNewFault : Sizes → List ℕ → Refusal → Type 0
IsNewFault sizes variables TooLarge = IsTooLarge sizes
IsNewFault sizes variables VariablesTooLong = (IsTooLarge sizes → ⊥) × (0x7FFF < length variables)
IsNewFault sizes variables Memory = (IsTooLarge sizes → ⊥) × (length variables ≤ 0x7FFF)
IsNewFault sizes variables _ = ⊥

-- why no program of this name is added to the setup, in this order: a bad name, a name that a program has, a failed
-- allocation
abbrev pub IsAddFault : Prepared → List ℕ → Refusal → Type 0
IsAddFault s name BadName = IsName name → ⊥
IsAddFault s name NameTwice = IsName name × (has_program s.programs name ≡ true)
IsAddFault s name Memory = IsName name × (has_program s.programs name ≡ false)
IsAddFault s name _ = ⊥

-- the setup has a program of this name, and its file is a good COM or MZ program
pub record IsLoadable (s : Prepared) (name : List ℕ) : Type 0 where
  pub file : List ℕ
  pub found : program_of s.programs name ≡ Some file
  pub good : IsGood file

-- why no program of this name can be loaded: the setup has none, or its file is no good COM or MZ program
abbrev pub IsNoProgram : Prepared → List ℕ → Refusal → Type 0
IsNoProgram s name NotFound = program_of s.programs name ≡ None
IsNoProgram s name BadFormat = (file : List ℕ) × (program_of s.programs name ≡ Some file) × (IsGood file → ⊥)
IsNoProgram s name _ = ⊥
