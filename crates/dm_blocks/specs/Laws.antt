-- Laws of the definitions of lists and walks: memory spells at most one list from a segment on, and lists and walks are
-- short.
use Rattle.std.specs.Prelude.{◌≡◌, ℕ, ◌≤◌, ◌<◌, Bool, List, length}
use Rattle.dm_space.specs.Memory.{Memory}
use Rattle.dm_blocks.specs.declared.header.Header.{Header}
use Rattle.dm_blocks.specs.Chain.{first_header, IsChain}
use Rattle.dm_blocks.specs.Listing.{Leads, start_of}

-- memory spells at most one list from a segment on
abbrev pub ChainIsUnique : Type 0
ChainIsUnique = (S : Memory) (start : ℕ) (L M : List Header) → IsChain S start L → IsChain S start M → L ≡ M

-- a list that memory spells from the first header on has at most 65,280 headers
abbrev pub ChainIsShort : Type 0
ChainIsShort = (S : Memory) (L : List Header) → IsChain S first_header L → length L ≤ 0xFF00

-- a walk over the first list, or over the second one after the headers F of the first, passes fewer than 65,280
-- headers before the one where it stands, also where the list is broken
abbrev pub WalkIsShort : Type 0
WalkIsShort =
    (S : Memory) (second : Bool) (F P : List Header) (t : ℕ) → Leads S F (start_of second) P t → length P < 0xFF00
