-- The lists of blocks that memory spells, and when they are clear: that of conventional memory and, where upper memory
-- belongs to the arena, a second one from the link block on.
-- MS-DOS Programmer's Reference, "Arena header": byte 0 of a header is `M`, or `Z` in the last one; the word at 1 is
-- the owner, 0 for a free block; the word at 3 is the size of the block in paragraphs. The block follows its header of
-- one paragraph, and the next header follows the block.
use Rattle.std.specs.Prelude.{Bool, List, [], cond, true, false, not, ℕ, ◌&&◌, ◌*◌, ◌++◌, ◌+◌, ◌<◌, ◌==◌, ◌∷◌, ◌≡◌, ◌≢◌, ◌≤◌, ◌||◌, ◌⊎◌}
use Rattle.dm_space.specs.declared.place.Place.{Place}
use Rattle.dm_space.specs.Memory.{Memory, byte_at, peek, place}
use Rattle.dm_space.specs.Places.{IsShaped, IsWritable}
use Rattle.dm_blocks.specs.declared.header.Header.{Header}

-- the segment of the first header of conventional memory
abbrev pub first_header : ℕ
first_header = 0x100

-- the segment of the link block's header, where conventional memory ends: from it on the second list is spelled, that
-- of upper memory
abbrev pub link_header : ℕ
link_header = 0x9FFF

-- the word of a header at the linear address a, low byte first
abbrev pub word : Memory → ℕ → ℕ
word S a = peek S a + 256 * peek S (a + 1)

-- the segment after the block of a header, where the next header of its list is, if there is one
abbrev pub next : Header → ℕ
next b = b.segment + 1 + b.size

-- whether the header at segment h is the link block's: h is 9FFFh, and upper memory belongs to the arena (`upper`)
abbrev pub is_link : Bool → ℕ → Bool
is_link upper h = upper && (h == link_header)

-- the block is free: its owner is 0, and it is not the link block, which counts as taken whatever its owner. Only
-- where upper memory belongs to the arena (`upper`) is there a link block
abbrev pub is_free : Bool → Header → Bool
is_free upper b = not (is_link upper b.segment) && (b.owner == 0)

-- memory has the header b with this signature, in five bytes, and the segment after its block is FFFFh at most
pub record IsHeader (S : Memory) (b : Header) (signature : ℕ) : Type 0 where
  pub fits : b.segment + 1 + b.size ≤ 0xFFFF
  pub bytes : (k : ℕ) → k < 5 → peek S (16 * b.segment + k) < 256
  pub signed : peek S (16 * b.segment) ≡ signature
  pub owned : word S (16 * b.segment + 1) ≡ b.owner
  pub sized : word S (16 * b.segment + 3) ≡ b.size

-- the signature of a header: `Z` in the last one, else `M`
abbrev pub signature_byte : Bool → ℕ
signature_byte last = cond last 0x5A 0x4D

-- the signature of a header that the headers L follow: `Z` if there are none, else `M`
abbrev pub signature : List Header → ℕ
signature [] = signature_byte true
signature (c ∷ L) = signature_byte false

-- the list has at least one header
abbrev pub IsNonEmpty : List Header → Type 0
IsNonEmpty [] = ⊥
IsNonEmpty (b ∷ L) = Unit {0}

-- memory spells the headers L from segment h on, each where the block before it ends
abbrev pub Spells : Memory → ℕ → List Header → Type 0
Spells S h [] = Unit {0}
Spells S h (b ∷ L) = (b.segment ≡ h) × IsHeader S b (signature L) × Spells S (next b) L

-- memory spells the list L from segment start on, and L has a header (`Spells` holds of no header, too)
abbrev pub IsChain : Memory → ℕ → List Header → Type 0
IsChain S start L = IsNonEmpty L × Spells S start L

-- L has a header at segment h
abbrev pub HasHeader : List Header → ℕ → Type 0
HasHeader [] h = ⊥
HasHeader (b ∷ L) h = (b.segment ≡ h) ⊎ HasHeader L h

-- the list has the link block's header: it is linked with the second list, and goes on in upper memory
abbrev pub is_linked : List Header → Bool
is_linked [] = false
is_linked (b ∷ L) = (b.segment == link_header) || is_linked L

-- the second list is a list by itself: upper memory belongs to the arena (`upper`), and the first list L isn't linked
abbrev pub is_parted : Bool → List Header → Bool
is_parted upper L = upper && not (is_linked L)

-- no block of L begins at the segment
abbrev pub NoBlockAt : List Header → ℕ → Type 0
NoBlockAt L segment = (h : ℕ) → HasHeader L h → h + 1 ≢ segment

-- each header of L has a place that keeps what is written, and no two have the same. Segments are compared, not
-- entries: a list has one header at a segment, and the segment alone decides the place
pub record IsClear (S : Memory) (L : List Header) : Type 0 where
  pub writable : (h : ℕ) → HasHeader L h → IsWritable (place S (16 * h))
  pub apart : (h g : ℕ) → HasHeader L h → HasHeader L g → place S (16 * h) ≡ place S (16 * g) → h ≡ g

-- the arena from segment start on is the list L: memory spells it, and it is clear
abbrev pub IsArena : Memory → ℕ → List Header → Type 0
IsArena S start L = IsChain S start L × IsClear S L

-- memory spells no clear list from segment start on: the arena there is destroyed
abbrev pub NoArena : Memory → ℕ → Type 0
NoArena S start = (L : List Header) → IsArena S start L → ⊥

-- no segment has a header of both lists
abbrev pub AreApart : List Header → List Header → Type 0
AreApart L U = (h : ℕ) → HasHeader L h → HasHeader U h → ⊥

-- memory spells the list U from segment start on, L followed by U is clear, and no segment has a header of both
abbrev pub IsArenaBehind : Memory → List Header → ℕ → List Header → Type 0
IsArenaBehind S L start U = IsChain S start U × IsClear S (L ++ U) × AreApart L U

-- memory spells no list from segment start on that shares no header with L and is clear together with it
abbrev pub NoArenaBehind : Memory → List Header → ℕ → Type 0
NoArenaBehind S L start = (U : List Header) → IsArenaBehind S L start U → ⊥

-- T is S but for bytes 0 to 4 of the headers of L
pub record DiffersInHeaders (S : Memory) (L : List Header) (T : Memory) : Type 0 where
  pub shape : IsShaped S T
  pub kept : (p : Place) → ((h k : ℕ) → HasHeader L h → k < 5 → p ≢ place S (16 * h + k)) → byte_at T p ≡ byte_at S p

-- the list from segment start on becomes L: T spells it, it is clear, and T is S but for bytes 0 to 4 of its headers
pub record Becomes (S : Memory) (start : ℕ) (L : List Header) (T : Memory) : Type 0 where
  pub clear : IsClear S L
  pub chain : IsChain T start L
  pub differs : DiffersInHeaders S L T
