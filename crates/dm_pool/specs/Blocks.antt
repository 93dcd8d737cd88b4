-- A pool of units of 1 KiB, and its blocks by their numbers: how blocks are taken, given back and resized.
use Rattle.std.specs.Prelude.{ℕ, ◌+◌, ◌*◌, ◌^◌, ◌<◌, ◌≤◌, ◌≡◌, ◌⊎◌, List, [], ◌++◌, ◌==◌, if◌then◌else◌, map, length, take, set, get_or, replicate, Option, Some, None}
use Rattle.dm_region.specs.Parts.{part, with_part}
use Rattle.dm_pool.specs.declared.extent.Extent.{Extent}
use Rattle.dm_pool.specs.Gaps.{are_free, lowest, first_empty}

-- a pool: its number of units, and its blocks; a number below 576 may have a block
pub record Blocks : Type 0 where
  pub units : ℕ
  -- by number, where a block lies
  pub places : List (Option Extent)
  -- by number, its bytes
  pub contents : List (List ℕ)

-- the pool with a block of number i at the place b, with the bytes xs; the other blocks stay
abbrev pub with_block : Blocks → ℕ → Extent → List ℕ → Blocks
with_block s i b xs = record { units = s.units; places = set s.places i (Some b); contents = set s.contents i xs }

-- the pool with xs as the bytes of block i; the places, and the bytes of the other blocks, stay
abbrev pub with_content : Blocks → ℕ → List ℕ → Blocks
with_content s i xs = record s { contents = set s.contents i xs }

-- the pool with no block of number i; the others stay (Store.give)
abbrev pub without : Blocks → ℕ → Blocks
without s i = record { units = s.units; places = set s.places i None; contents = set s.contents i [] }

-- the bytes of a new block of u units: zeros, 1024 for each unit
abbrev pub zeros : ℕ → List ℕ
zeros u = replicate (u * 1024) 0

-- the number of a new block of u units, all zeros, and the pool with it, given the number and the base that it gets;
-- None if either is missing
abbrev pub placed : Blocks → ℕ → Option ℕ → Option ℕ → Option (ℕ × Blocks)
placed s u None p = None
placed s u (Some i) None = None
placed s u (Some i) (Some p) = Some (i, with_block s i (record { base = p; units = u }) (zeros u))

-- a new block of u units, all zeros, in the lowest gap that holds it: its number, the lowest with no block, and the
-- pool with it; None if no gap or no number is left for it (Store.take)
abbrev pub taken : Blocks → ℕ → Option (ℕ × Blocks)
taken s u = placed s u (first_empty s.places) (lowest s.places s.units u)

-- the block with the number i lies at b
abbrev pub IsAt : Blocks → ℕ → Extent → Type 0
IsAt s i b = get_or s.places i None ≡ Some b

-- there is a block with this number
abbrev pub IsLive : Blocks → ℕ → Type 0
IsLive s i = (i < 576) × ((b : Extent) × IsAt s i b)

-- the bytes of a block by its place, cut from the bytes of the pool; none if there is no block
abbrev pub content : List ℕ → Option Extent → List ℕ
content bytes None = []
content bytes (Some b) = part bytes (b.base * 1024) (b.units * 1024)

-- by number, the bytes that each block has in the bytes of the pool; none for a number with no block
abbrev pub contents_of : List (Option Extent) → List ℕ → List (List ℕ)
contents_of places bytes = map (content bytes) places

-- one place ends at or below the first unit of the other, so that they share no unit; a place of no unit at unit 0 is
-- apart from every other
abbrev pub Apart : Extent → Extent → Type 0
Apart b d = (b.base + b.units ≤ d.base) ⊎ (d.base + d.units ≤ b.base)

-- each block lies within the pool, all are apart, and there are 576 numbers and fewer than 2 ^ 31 units
pub record IsLaid (units : ℕ) (places : List (Option Extent)) : Type 0 where
  pub count : length places ≡ 576
  pub small : units < 2 ^ 31
  pub within : (i : ℕ) (b : Extent) → get_or places i None ≡ Some b → b.base + b.units ≤ units
  pub apart : (i j : ℕ) (b d : Extent) → ¬ (i ≡ j) → get_or places i None ≡ Some b → get_or places j None ≡ Some d →
      Apart b d

-- the blocks lie within the pool, apart, and the pool has 1 KiB for each unit
pub record IsPool (units : ℕ) (places : List (Option Extent)) (bytes : List ℕ) : Type 0 where
  pub laid : IsLaid units places
  pub whole : length bytes ≡ units * 1024

-- the first unit that the block i at b gets if it is resized to u units: its own if the units there are its own or
-- free, else that of the lowest gap that holds them, its old place counted as taken; 0 for no unit, None if there is no
-- place for it
abbrev pub new_base : Blocks → ℕ → Extent → ℕ → Option ℕ
new_base s i b u = if u == 0 then Some 0 else (if are_free (set s.places i None) s.units u b.base then Some b.base else
    lowest s.places s.units u)

-- the bytes of a block that gets u units: its own up to the smaller size, then zeros
abbrev pub fitted : List ℕ → ℕ → List ℕ
fitted xs u = take (u * 1024) (xs ++ zeros u)

-- the pool with block i of u units at the given base: its bytes up to the smaller size stay, new ones are zeros; None
-- for no base
abbrev pub at_base : Blocks → ℕ → ℕ → Option ℕ → Option Blocks
at_base s i u None = None
at_base s i u (Some p) = Some (with_block s i (record { base = p; units = u }) (fitted (get_or s.contents i []) u))

-- the pool with the block i, which lies at the given place, resized to u units; None if there is no such block or no
-- place for it
abbrev pub resized_from : Blocks → ℕ → ℕ → Option Extent → Option Blocks
resized_from s i u None = None
resized_from s i u (Some b) = at_base s i u (new_base s i b u)

-- the pool with the block i resized to u units; None if there is no such block or no place for it (Store.resize)
abbrev pub resized : Blocks → ℕ → ℕ → Option Blocks
resized s i u = resized_from s i u (get_or s.places i None)

-- the pool with `len` bytes of block i, from its byte `from` on, copied over those of block j from its byte `to` on; i
-- and j may be one block (Store.move_bytes)
abbrev pub moved_bytes : Blocks → ℕ → ℕ → ℕ → ℕ → ℕ → Blocks
moved_bytes s i from j to len = with_content s j (with_part (get_or s.contents j []) to len
    (part (get_or s.contents i []) from len))

-- a pool with no block
unfoldable pub no_blocks : ℕ → Blocks
no_blocks units = record { units = units; places = replicate 576 None; contents = replicate 576 [] }
