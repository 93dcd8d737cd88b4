-- A walk over the headers of a list, one by one, up to the end or to the first header that breaks the list: `Headers`
-- of src/listing.rt. The second list is walked over after the first one, and must be clear together with it.
use Rattle.std.specs.Prelude.{◌≡◌, ℕ, List, [], ◌∷◌, ◌++◌, Bool, MatchBool, Option, Some, None, false, true, if◌then◌else◌, IfSome}
use Rattle.dm_space.specs.Memory.{Memory}
use Rattle.dm_blocks.specs.declared.header.Header.{Header}
use Rattle.dm_blocks.specs.declared.header.ListedHeader.{ListedHeader}
use Rattle.dm_blocks.specs.declared.listing.Met.{Met}
use Rattle.dm_blocks.specs.declared.listing.Met.TheVariants.{Told, End, Destroyed}
use Rattle.dm_blocks.specs.Chain.{first_header, link_header, next, signature_byte, AreApart, IsHeader, IsClear, IsArena, IsArenaBehind, NoArenaBehind}

-- what contracts see of a walk: the memory; whether it goes over the second list, after the first one; and the
-- segment where the next header has to be, None after the last header
pub record Walking : Type 0 where
  pub memory : Memory
  pub second : Bool
  pub at : Option ℕ

-- the segment of a list's first header: of the second list with true, of the first one with false
abbrev pub start_of : Bool → ℕ
start_of second = if second then link_header else first_header

-- F is the list that a walk has gone over before its own: the first list for a walk over the second one, else empty
abbrev pub IsBehind : Memory → Bool → List Header → Type 0
IsBehind S false F = F ≡ []
IsBehind S true F = IsArena S first_header F

-- memory has the headers P from segment h on, end to end and each signed `M`, and t is the segment after the last
-- block (h if P is empty)
abbrev pub Path : Memory → ℕ → List Header → ℕ → Type 0
Path S h [] t = h ≡ t
Path S h (b ∷ P) t = (b.segment ≡ h) × IsHeader S b 0x4D × Path S (next b) P t

-- the headers P lead from segment start to segment t, share no segment with F, and are clear together with F
pub record Leads (S : Memory) (F : List Header) (start : ℕ) (P : List Header) (t : ℕ) : Type 0 where
  pub path : Path S start P t
  pub clear : IsClear S (F ++ P)
  pub apart : AreApart F P

-- e is the header at segment t after the headers P; P and e are clear together with F, and share no segment with F
pub record Follows (S : Memory) (F P : List Header) (t : ℕ) (e : ListedHeader) : Type 0 where
  pub at : e.header.segment ≡ t
  pub header : IsHeader S e.header (signature_byte e.last)
  pub clear : IsClear S (F ++ (P ++ e.header ∷ []))
  pub apart : AreApart F (P ++ e.header ∷ [])

-- if e is the last header, P and e are a whole list that is clear together with F
abbrev pub Closes : Memory → List Header → ℕ → List Header → ListedHeader → Type 0
Closes S F start P e = e.last ≡ true → IsArenaBehind S F start (P ++ e.header ∷ [])

-- what a step at segment t meets, and where the walk stands after it: `Told` returns the header at t and moves to
-- the next one, or to None after the last; `Destroyed` returns t and stays, as no header may stand there and memory
-- spells no such list. `End` is no result here
abbrev pub IsMetFrom : Memory → List Header → ℕ → ℕ → Met → Option ℕ → Type 0
IsMetFrom S F start t (Told e) at =
    (at ≡ (if e.last then None else Some (next e.header))) × ((P : List Header) → Leads S F start P t →
    Follows S F P t e × Closes S F start P e)
IsMetFrom S F start t End at = ⊥
IsMetFrom S F start t (Destroyed h) at =
    (h ≡ t) × (at ≡ Some t) × NoArenaBehind S F start × ((P : List Header) → Leads S F start P t → (e : ListedHeader) →
    Follows S F P t e → ⊥)

-- what a step meets, and where the walk stands after it; a walk past the last header returns `End` and stays
abbrev pub IsMet : Memory → List Header → ℕ → Option ℕ → Met → Option ℕ → Type 0
IsMet S F start (Some t) met at = IsMetFrom S F start t met at
IsMet S F start None (Told e) at = ⊥
IsMet S F start None End at = at ≡ None
IsMet S F start None (Destroyed h) at = ⊥

-- the headers that a walk has passed lead from segment start to where it stands; past the last header nothing is said
abbrev pub AreTold : Memory → List Header → ℕ → Option ℕ → Type 0
AreTold S F start at = IfSome at (λ t. (P : List Header) × Leads S F start P t)

-- one step of the walk w (`Headers::advance`): what it meets, and where the next header has to be after it
pub record MeetsNext (w : Walking) (met : Met) (at : Option ℕ) : Type 0 where
  pub front : List Header
  pub behind : IsBehind w.memory w.second front
  pub told : AreTold w.memory front (start_of w.second) w.at
  pub meets : IsMet w.memory front (start_of w.second) w.at met at

-- where a walk over the first list stands after a header: past the last one, memory spells a clear list; else its
-- headers lead to segment t
abbrev pub StandsAfter : Memory → Bool → ℕ → Type 0
StandsAfter S last t = MatchBool last ((L : List Header) × IsArena S first_header L) ((P : List Header) ×
    Leads S [] first_header P t)

-- a header, the last or not, leads a walk over the first list on from segment h to segment t
abbrev pub LeadsOn : Memory → ℕ → Bool → ℕ → Type 0
LeadsOn S h last t = (P : List Header) → Leads S [] first_header P h → StandsAfter S last t
