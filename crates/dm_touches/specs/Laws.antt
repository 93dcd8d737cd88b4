-- Laws of what an instruction touches.
use Rattle.std.specs.Prelude.{◌≡◌, ◌≢◌, ℕ, List, All}
use Rattle.dm_space.specs.declared.place.Place.{Place}
use Rattle.dm_space.specs.Memory.{Memory, byte_at}
use Rattle.dm_space.specs.Places.{IsShaped}
use Rattle.dm_ins.specs.declared.ins.Ins.{Ins}
use Rattle.dm_cpu.specs.Guest.{Guest}
use Rattle.dm_exec.specs.Effect.{effect}
use Rattle.dm_touches.specs.declared.elements.FarAddress.{FarAddress}
use Rattle.dm_touches.specs.Elements.{byte_place, bytes_of}
use Rattle.dm_touches.specs.Touches.{writes}

-- memory n has the map of memory m, and the same bytes as m, but for those at the places of these addresses
pub record KeepsOthers (m n : Memory) (fs : List FarAddress) : Type 0 where
  pub shape : IsShaped m n
  pub kept : (q : Place) → All (λ f. byte_place m f ≢ q) fs → byte_at n q ≡ byte_at m q

-- a byte that an instruction changes is among those that it writes; and it leaves the map as it is
abbrev pub WritesAreListed : Type 0
WritesAreListed = (g : Guest) (i : Ins) (length : ℕ) → KeepsOthers g.memory (effect g i length).memory
    (bytes_of (writes g i length))
