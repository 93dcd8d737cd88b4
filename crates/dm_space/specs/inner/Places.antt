-- A write in terms of places, as private contracts and proofs speak of it.
use Rattle.std.specs.Prelude.{◌≡◌, ◌≢◌, ℕ}
use Rattle.dm_space.specs.declared.place.Place.{Place}
use Rattle.dm_space.specs.Memory.{Memory, place, byte_at}
use Rattle.dm_space.specs.Places.{IsWritable, IsShaped}

-- T is S after a write of v at the linear address a: v stands at the place if that is writable, all other places and
-- the map are as they were
pub record IsPoked (S : Memory) (a v : ℕ) (T : Memory) : Type 0 where
  pub shape : IsShaped S T
  pub written : IsWritable (place S a) → byte_at T (place S a) ≡ v
  pub kept : (p : Place) → p ≢ place S a → byte_at T p ≡ byte_at S p
