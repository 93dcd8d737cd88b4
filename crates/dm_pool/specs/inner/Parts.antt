-- Where the parts of a store lie in its region, as private contracts and proofs speak of it.
use Rattle.std.specs.Prelude.{◌≡◌, ℕ, ◌+◌, ◌*◌, get_or, Some, None}
use Rattle.dm_pool.specs.declared.part.Part.{Part}
use Rattle.dm_pool.specs.declared.part.Part.TheVariants.{Low, Scratch, Block}
use Rattle.dm_pool.specs.declared.extent.Extent.{Extent}
use Rattle.dm_pool.specs.inner.Order.{Layout}

-- the part has a place: always the low bytes and the scratch bytes, a block if the table has one with its number
abbrev pub IsLaidOut : Layout → Part → Type 0
IsLaidOut l Low = Unit {0}
IsLaidOut l Scratch = Unit {0}
IsLaidOut l (Block i) = (b : Extent) × (get_or l.places i None ≡ Some b)

-- the part is the n bytes of the region from its byte `from` on
abbrev pub IsSpan : Layout → Part → ℕ → ℕ → Type 0
IsSpan l Low from n = (from ≡ 0) × (n ≡ 0x110000)
IsSpan l Scratch from n = (from ≡ 0x110000) × (n ≡ 0x200000)
IsSpan l (Block i) from n = (b : Extent) × (get_or l.places i None ≡ Some b) × (from ≡ 0x310000 + b.base * 1024) ×
    (n ≡ b.units * 1024)
