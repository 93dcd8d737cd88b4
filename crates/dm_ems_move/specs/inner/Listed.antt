-- The blocks that are made ready for a region which is described. For private contracts and proofs alone.
use Rattle.std.specs.Prelude.{◌≡◌, ◌≢◌, ◌≤◌, ℕ, List, length}
use Rattle.dm_ems.specs.Tables.{Tables, blocks_of}
use Rattle.dm_ems_move.specs.declared.description.Description.{Description}

-- at most 512 blocks: if the region is not one of conventional memory, those of its handle's pages
pub record HasBlocks (ems : Tables) (d : Description) (blocks : List ℕ) : Type 0 where
  pub few : length blocks ≤ 512
  pub of_handle : d.kind ≢ 0 → blocks ≡ blocks_of ems d.handle
