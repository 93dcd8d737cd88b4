-- The parts of a store: the low bytes, the scratch bytes, and the bytes of each block.
use Rattle.std.specs.Prelude.{◌≡◌, ℕ, ◌+◌, ◌*◌, ◌<◌, List, [], get_or, set}
use Rattle.dm_region.specs.Parts.{part, with_part}
use Rattle.dm_pool.specs.declared.part.Part.{Part}
use Rattle.dm_pool.specs.declared.part.Part.TheVariants.{Low, Scratch, Block}
use Rattle.dm_pool.specs.declared.extent.Extent.{Extent}
use Rattle.dm_pool.specs.Blocks.{with_content, IsAt, IsLive}
use Rattle.dm_pool.specs.Stored.{Stored}

-- there is such a part: always the low bytes and the scratch bytes, a block if there is one with its number
abbrev pub HasPart : Stored → Part → Type 0
HasPart s Low = Unit {0}
HasPart s Scratch = Unit {0}
HasPart s (Block i) = IsLive s.blocks i

-- the bytes of a part: the low bytes, the scratch bytes, or those of one block
abbrev pub part_bytes : Stored → Part → List ℕ
part_bytes s Low = s.low
part_bytes s Scratch = s.scratch
part_bytes s (Block i) = get_or s.blocks.contents i []

-- the store with xs as the bytes of a part; the other parts stay
abbrev pub with_part_bytes : Stored → Part → List ℕ → Stored
with_part_bytes s Low xs = record s { low = xs }
with_part_bytes s Scratch xs = record s { scratch = xs }
with_part_bytes s (Block i) xs = record s { blocks = with_content s.blocks i xs }

-- the store with x as byte k of a part
abbrev pub with_part_byte : Stored → Part → ℕ → ℕ → Stored
with_part_byte s part k x = with_part_bytes s part (set (part_bytes s part) k x)

-- the store with `len` bytes of one part, from its byte `from` on, copied over those from byte `to` on of another part
-- or the same one (Store.copy)
abbrev pub part_copied : Stored → Part → ℕ → Part → ℕ → ℕ → Stored
part_copied s source from destination to len =
    with_part_bytes s destination (with_part (part_bytes s destination) to len (part (part_bytes s source) from len))

-- the spot of byte k of a part, a number by which the byte is found at once: of low bytes k itself, of the pool's bytes
-- those from 310000h on. (The scratch bytes have none.)
abbrev pub IsSpot : Stored → Part → ℕ → ℕ → Type 0
IsSpot s Low k spot = (k < 0x110000) × (spot ≡ k)
IsSpot s Scratch k spot = ⊥
IsSpot s (Block i) k spot = (b : Extent) × IsAt s.blocks i b × (k < b.units * 1024) ×
    (spot ≡ 0x310000 + b.base * 1024 + k)
