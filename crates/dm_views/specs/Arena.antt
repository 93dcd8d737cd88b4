-- The listing of the arena: its headers, as lines with segment, signature, owner and size in paragraphs.
-- Source: MS-DOS Programmer's Reference, "Arena header". The form is this machine's own.
use Rattle.std.specs.Prelude.{◌≡◌, ℕ, Bool, List, [], ◌∷◌, ◌++◌, false, true, codes}
use Rattle.dm_space.specs.Memory.{Memory}
use Rattle.dm_blocks.specs.declared.header.Header.{Header}
use Rattle.dm_blocks.specs.declared.header.ListedHeader.{ListedHeader}
use Rattle.dm_blocks.specs.Chain.{first_header, link_header, signature, is_parted, IsArenaBehind}
use Rattle.dm_blocks.specs.Listing.{Leads, Follows}
use Rattle.dm_views.specs.Digits.{four_digits}

-- the line of a header: segment, signature `signed`, owner, and size in paragraphs
abbrev pub header_line : ℕ → Header → List ℕ
header_line signed b = four_digits b.segment ++ (32 ∷ signed ∷ 32 ∷ []) ++ four_digits b.owner ++ codes " "
    ++ four_digits b.size ++ 10 ∷ []

-- the lines of a whole list: the last header has the signature `Z`, the others `M`
abbrev pub list_text : List Header → List ℕ
list_text [] = []
list_text (b ∷ L) = header_line (signature L) b ++ list_text L

-- the lines of headers after which the list is broken: all have the signature `M`
abbrev pub front_text : List Header → List ℕ
front_text [] = []
front_text (b ∷ P) = header_line 0x4D b ++ front_text P

-- the line `end`, which follows the last header of a whole list
abbrev pub end_line : List ℕ
end_line = codes "end" ++ 10 ∷ []

-- the line `destroyed at` with the segment where no header can follow, in four hexadecimal digits
abbrev pub destroyed_line : ℕ → List ℕ
destroyed_line segment = codes "destroyed at " ++ four_digits segment ++ 10 ∷ []

-- the line `unlinked`, which stands before the second list
abbrev pub unlinked_line : List ℕ
unlinked_line = codes "unlinked" ++ 10 ∷ []

-- memory spells the whole list L from the segment `start` on, where F are the headers of the list before it, if any;
-- the text is its lines and `end`
pub record IsWhole (m : Memory) (F : List Header) (start : ℕ) (L : List Header) (text : List ℕ) : Type 0 where
  pub list : IsArenaBehind m F start L
  pub is : text ≡ list_text L ++ end_line

-- the list from the segment `start` on is broken, where F are the headers of the list before it, if any: the text is
-- the lines of its headers up to a segment where none can follow, and `destroyed at` with that segment
pub record IsCutShort (m : Memory) (F : List Header) (start : ℕ) (text : List ℕ) : Type 0 where
  pub headers : List Header
  pub at : ℕ
  pub leads : Leads m F start headers at
  pub none : (e : ListedHeader) → Follows m F headers at e → ⊥
  pub is : text ≡ front_text headers ++ destroyed_line at

-- the text is the listing of the list from the segment `start` on, whole or cut short
pub data IsListText (m : Memory) (F : List Header) (start : ℕ) (text : List ℕ) : Type 0 where
  whole : (L : List Header) → IsWhole m F start L text → IsListText m F start text
  cut_short : IsCutShort m F start text → IsListText m F start text

-- the text is the listing of the arena: the first list; and if that is whole and, with upper memory in the arena
-- (`upper`), not linked, then `unlinked` and the second list
pub data IsArenaText (upper : Bool) (m : Memory) (text : List ℕ) : Type 0 where
  destroyed : IsCutShort m [] first_header text → IsArenaText upper m text
  alone : (L : List Header) → IsWhole m [] first_header L text → is_parted upper L ≡ false → IsArenaText upper m text
  parted : (L : List Header) (first second : List ℕ) → IsWhole m [] first_header L first → is_parted upper L ≡ true →
      IsListText m L link_header second → text ≡ first ++ (unlinked_line ++ second) → IsArenaText upper m text
