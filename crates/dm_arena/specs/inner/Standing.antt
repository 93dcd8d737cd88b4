-- When a new header may stand beside others. For private contracts and proofs alone.
use Rattle.std.specs.Prelude.{List, None, Option, Some, ℕ, ◌*◌, ◌≡◌, ◌≢◌, ◌≤◌, ◌⊎◌}
use Rattle.dm_space.specs.declared.place.Place.{Place}
use Rattle.dm_space.specs.Memory.{Memory, place}
use Rattle.dm_blocks.specs.declared.header.Header.{Header}
use Rattle.dm_blocks.specs.Chain.{HasHeader}
use Rattle.dm_blocks.specs.inner.Standing.{MayStand}

-- the new header of a cut, if there is one, may stand beside the headers L: its place keeps what is written, and no
-- header of L has that place
abbrev pub MaySplit : Memory → List Header → Option Header → Type 0
MaySplit S L None = Unit {0}
MaySplit S L (Some b) = MayStand S L b.segment

-- L has no header at the segment of the new header, if there is one
abbrev pub IsNew : List Header → Option Header → Type 0
IsNew L None = Unit {0}
IsNew L (Some b) = HasHeader L b.segment → ⊥

-- the headers of M stand at the segments of L that are at most `low` or at least `high`
pub record AreOutside (L : List Header) (low high : ℕ) (M : List Header) : Type 0 where
  pub has : (g : ℕ) → HasHeader L g → (g ≤ low) ⊎ (high ≤ g) → HasHeader M g
  pub within : (g : ℕ) → HasHeader M g → HasHeader L g
  pub outside : (g : ℕ) → HasHeader M g → (g ≤ low) ⊎ (high ≤ g)

-- a header of L at a segment that is at most `low` or at least `high` stands at the place p
pub record OccupiesOutside (S : Memory) (L : List Header) (low high : ℕ) (p : Place) : Type 0 where
  pub segment : ℕ
  pub has : HasHeader L segment
  pub outside : (segment ≤ low) ⊎ (high ≤ segment)
  pub is : place S (16 * segment) ≡ p
