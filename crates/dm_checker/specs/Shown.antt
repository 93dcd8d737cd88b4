-- What memory shows of the arena: the headers of its lists, as far as they can be followed, and where a list breaks.
-- Source: MS-DOS Programmer's Reference, "Arena header".
use Rattle.std.specs.Prelude.{◌≡◌, ◌++◌, ℕ, Bool, true, false, List, [], Option, Some, None}
use Rattle.dm_space.specs.Memory.{Memory}
use Rattle.dm_blocks.specs.declared.header.Header.{Header}
use Rattle.dm_blocks.specs.declared.header.ListedHeader.{ListedHeader}
use Rattle.dm_blocks.specs.Chain.{first_header, link_header, is_parted, IsArena, IsArenaBehind}
use Rattle.dm_blocks.specs.Listing.{Leads, Follows}

-- what memory shows of the arena: the headers in their order, and, if it is destroyed, the segment where its list
-- breaks
pub record Shown : Type 0 where
  pub headers : List Header
  pub broken : Option ℕ

-- the list from the segment `start` on has the headers P and breaks at the segment `at`, where no header can follow; F
-- are the headers of the list before it, if any
pub record IsCut (m : Memory) (F : List Header) (start : ℕ) (P : List Header) (at : ℕ) : Type 0 where
  pub leads : Leads m F start P at
  pub none : (e : ListedHeader) → Follows m F P at e → ⊥

-- `shown` is what memory shows of the arena: the first list, and the second one too if upper memory belongs to the
-- arena (`upper`) and the first list is not linked with it. A list that breaks is shown up to there
pub data IsShown (upper : Bool) (m : Memory) (shown : Shown) : Type 0 where
  cut : (at : ℕ) → IsCut m [] first_header shown.headers at → shown.broken ≡ Some at → IsShown upper m shown
  alone : IsArena m first_header shown.headers → is_parted upper shown.headers ≡ false → shown.broken ≡ None →
      IsShown upper m shown
  parted : (L U : List Header) → IsArena m first_header L → is_parted upper L ≡ true → IsArenaBehind m L link_header U →
      shown.headers ≡ L ++ U → shown.broken ≡ None → IsShown upper m shown
  parted_cut : (L P : List Header) (at : ℕ) → IsArena m first_header L → is_parted upper L ≡ true →
      IsCut m L link_header P at → shown.headers ≡ L ++ P → shown.broken ≡ Some at → IsShown upper m shown
