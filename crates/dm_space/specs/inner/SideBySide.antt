-- Stretches of places side by side, as private contracts and proofs speak of them: bytes between two multiples of 4000h
-- lie in one part of the map.
use Rattle.std.specs.Prelude.{ℕ, ◌+◌, List, replicate}
use Rattle.dm_region.specs.Parts.{part, with_part}
use Rattle.dm_pool.specs.Blocks.{with_content}
use Rattle.dm_space.specs.declared.place.Place.{Place}
use Rattle.dm_space.specs.declared.place.Place.TheVariants.{Low, Page, Rom, Nothing}
use Rattle.dm_space.specs.Memory.{Memory, page_bytes, with_blocks}
use Rattle.dm_space.specs.Copies.{values}
use Rattle.dm_space.specs.Rom.{rom}

-- the place i bytes after a place, in the same part of the map
abbrev pub shift : Place → ℕ → Place
shift (Low a) i = Low (a + i)
shift (Page p k) i = Page p (k + i)
shift (Rom a) i = Rom (a + i)
shift Nothing i = Nothing

-- the n bytes kept at a place and the places after it
abbrev pub stretch_bytes : Memory → Place → ℕ → List ℕ
stretch_bytes m (Low a) n = part m.low a n
stretch_bytes m (Page p k) n = part (page_bytes m p) k n
stretch_bytes m (Rom k) n = values rom k n
stretch_bytes m Nothing n = replicate n 0xFF

-- the memory with other bytes at a place and the n - 1 places after it, where they are kept
abbrev pub with_stretch : Memory → Place → ℕ → List ℕ → Memory
with_stretch m (Low a) n vs = record m { low = with_part m.low a n vs }
with_stretch m (Page p k) n vs = with_blocks m (with_content m.blocks p (with_part (page_bytes m p) k n vs))
with_stretch m (Rom k) n vs = m
with_stretch m Nothing n vs = m
