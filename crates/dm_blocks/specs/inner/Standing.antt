-- When a header may stand beside others. For private contracts and proofs alone.
use Rattle.std.specs.Prelude.{List, ℕ, ◌*◌, ◌≡◌, ◌≢◌}
use Rattle.dm_space.specs.declared.place.Place.{Place}
use Rattle.dm_space.specs.Memory.{Memory, place}
use Rattle.dm_space.specs.Places.{IsWritable}
use Rattle.dm_blocks.specs.declared.header.Header.{Header}
use Rattle.dm_blocks.specs.Chain.{HasHeader}

-- a header may stand at the segment beside the headers L: its place keeps what is written, and no header of L has
-- that place
pub record MayStand (S : Memory) (L : List Header) (segment : ℕ) : Type 0 where
  pub writable : IsWritable (place S (16 * segment))
  pub apart : (g : ℕ) → HasHeader L g → place S (16 * g) ≢ place S (16 * segment)

-- a header of L stands at the place p
pub record Occupies (S : Memory) (L : List Header) (p : Place) : Type 0 where
  pub segment : ℕ
  pub has : HasHeader L segment
  pub is : place S (16 * segment) ≡ p
