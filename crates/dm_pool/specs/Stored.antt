-- What a store holds.
use Rattle.std.specs.Prelude.{ℕ, ◌+◌, ◌*◌, ◌<◌, ◌⊎◌, ◌++◌, List, length, take, drop, replicate}
use Rattle.dm_pool.specs.declared.sizes.Sizes.{Sizes}
use Rattle.dm_pool.specs.Blocks.{Blocks}

-- the bytes of low memory by their linear addresses, the scratch bytes, and the blocks of the pool
pub record Stored : Type 0 where
  pub low : List ℕ
  pub scratch : List ℕ
  pub blocks : Blocks

-- more than 512 pages of expanded memory, or more than 15,360 KiB of extended memory
abbrev pub IsTooLarge : Sizes → Type 0
IsTooLarge sizes = (512 < sizes.ems_pages) ⊎ (15360 < sizes.xms_kib)

-- the units of the pool of a store of these sizes: 16 for each page of expanded memory, one for each KiB of extended
-- memory
abbrev pub units_of : Sizes → ℕ
units_of sizes = 16 * sizes.ems_pages + sizes.xms_kib

-- n zeros. (A definition that stays closed: the prover would else write all of them out.)
unfoldable pub zeros_of : ℕ → List ℕ
zeros_of n = replicate n 0

-- what a slice that held `old` holds once `new` is written; it has the length of `old`, since a slice keeps its length
abbrev pub refit : List ℕ → List ℕ → List ℕ
refit old new = take (length old) (new ++ drop (length new) old)
