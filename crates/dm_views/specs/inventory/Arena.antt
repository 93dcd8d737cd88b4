-- The headers of the arena as records, in the order of their lists, and where a list breaks.
-- Source: MS-DOS Programmer's Reference, "Arena header".
use Rattle.std.specs.Prelude.{◌≡◌, ℕ, Bool, List, [], ◌∷◌, ◌++◌, false, true, Option, Some, None}
use Rattle.dm_space.specs.Memory.{Memory}
use Rattle.dm_blocks.specs.declared.header.Header.{Header}
use Rattle.dm_blocks.specs.declared.header.ListedHeader.{ListedHeader}
use Rattle.dm_blocks.specs.Chain.{first_header, link_header, signature, is_parted, IsArenaBehind}
use Rattle.dm_blocks.specs.Listing.{Leads, Follows}
use Rattle.dm_views.specs.declared.inventory.arena.ArenaBlock.{ArenaBlock}

-- the record of a header with this signature byte, of the first list (0) or of the second (1)
abbrev pub block_record : ℕ → ℕ → Header → ArenaBlock
block_record list signed b = record {
  segment = b.segment;
  owner = b.owner;
  size = b.size;
  signature = signed;
  list = list;
}

-- the records of a whole list: the last header has the signature `Z`, the others `M`
abbrev pub list_records : ℕ → List Header → List ArenaBlock
list_records list [] = []
list_records list (b ∷ L) = block_record list (signature L) b ∷ list_records list L

-- the records of headers after which the list is broken: all have the signature `M`
abbrev pub front_records : ℕ → List Header → List ArenaBlock
front_records list [] = []
front_records list (b ∷ P) = block_record list 0x4D b ∷ front_records list P

-- memory spells the whole list L from the segment `start` on, where F are the headers of the list before it, if any;
-- these are its records
pub record IsWhole (m : Memory) (F : List Header) (start list : ℕ) (L : List Header) (records : List ArenaBlock) : Type
    0 where
  pub spelled : IsArenaBehind m F start L
  pub is : records ≡ list_records list L

-- the list from the segment `start` on is broken, where F are the headers of the list before it, if any: these are the
-- records of its headers up to the segment `at`, where none can follow
pub record IsCutShort (m : Memory) (F : List Header) (start list at : ℕ) (records : List ArenaBlock) : Type 0 where
  pub headers : List Header
  pub leads : Leads m F start headers at
  pub none : (e : ListedHeader) → Follows m F headers at e → ⊥
  pub is : records ≡ front_records list headers

-- these are the records of the list from the segment `start` on, and the segment where it breaks; None if it is whole
pub data IsListed (m : Memory) (F : List Header) (start list : ℕ) (records : List ArenaBlock)
    (broken : Option ℕ) : Type 0 where
  whole : (L : List Header) → IsWhole m F start list L records → broken ≡ None → IsListed m F start list records broken
  cut_short : (at : ℕ) → IsCutShort m F start list at records → broken ≡ Some at →
      IsListed m F start list records broken

-- these are the records of the arena, and the segment where it breaks: those of the first list; and if that is whole
-- and, with upper memory in the arena (`upper`), not linked, then those of the second list
pub data IsListedArena (upper : Bool) (m : Memory) (records : List ArenaBlock) (broken : Option ℕ) : Type 0 where
  destroyed : (at : ℕ) → IsCutShort m [] first_header 0 at records → broken ≡ Some at →
      IsListedArena upper m records broken
  alone : (L : List Header) → IsWhole m [] first_header 0 L records → is_parted upper L ≡ false → broken ≡ None →
      IsListedArena upper m records broken
  parted : (L : List Header) (first second : List ArenaBlock) → IsWhole m [] first_header 0 L first →
      is_parted upper L ≡ true → IsListed m L link_header 1 second broken → records ≡ first ++ second
      → IsListedArena upper m records broken
