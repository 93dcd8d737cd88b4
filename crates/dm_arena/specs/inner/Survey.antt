-- One walk for functions 48h and 49h: what it finds in the joined list, and where adjacent free blocks begin. For
-- private contracts and proofs alone.
use Rattle.std.specs.Prelude.{Bool, List, None, Some, false, true, ℕ, ◌++◌, ◌∷◌, ◌≡◌, ◌≤◌}
use Rattle.std.specs.Bool.{OnFalse}
use Rattle.dm_space.specs.Memory.{Memory}
use Rattle.dm_blocks.specs.declared.header.Header.{Header}
use Rattle.dm_blocks.specs.declared.header.ListedHeader.{ListedHeader}
use Rattle.dm_blocks.specs.Chain.{first_header, next, IsArena, IsNonEmpty, NoArena}
use Rattle.dm_blocks.specs.Reading.{IsSpelledFrom}
use Rattle.dm_arena.specs.declared.fit.Strategy.{Strategy}
use Rattle.dm_arena.specs.declared.joined.JoinedBlock.{JoinedBlock}
use Rattle.dm_arena.specs.declared.survey.Survey.{Survey}
use Rattle.dm_arena.specs.declared.refusal.ArenaRefusal.{ArenaRefusal}
use Rattle.dm_arena.specs.declared.refusal.ArenaRefusal.TheVariants.{Destroyed, NoBlock, Short}
use Rattle.dm_arena.specs.Blocks.{join, largest}
use Rattle.dm_arena.specs.declared.fit.Choice.{Choice}
use Rattle.dm_arena.specs.inner.Walks.{FindsOther, IsChoosing, IsJoinedFront, IsJoining, IsJoiningAll, pick}

-- r is the first block of the joined list of L, and K the headers of L after it; if r is one block, L is its header and
-- K
pub record IsJoinedBlock (upper : Bool) (S : Memory) (L : List Header) (r : JoinedBlock)
    (K : List Header) : Type 0 where
  pub front : IsJoinedFront upper S L r.listed K
  pub single : OnFalse r.several (L ≡ r.listed.header ∷ K)

-- e is the first block of L with the free blocks after it taken in so far, and K the headers that are left; if none is
-- taken in, L is the header of e and K
pub record IsJoiningBlock (upper : Bool) (S : Memory) (L : List Header) (e : ListedHeader) (several : Bool)
    (K : List Header) : Type 0 where
  pub joining : IsJoining upper S L e K
  pub single : OnFalse several (L ≡ e.header ∷ K)

-- the headers of L below segment `from` are those of the joined list
pub record IsJoinedTo (upper : Bool) (S : Memory) (L : List Header) (from : ℕ) : Type 0 where
  pub done : List Header
  pub rest : List Header
  pub nonempty : IsNonEmpty rest
  pub joining : IsJoiningAll upper S first_header L S from done rest

-- while a walk over L stands at segment h, with the headers K left: with `several` it has met adjacent free blocks, and
-- the first ones are at segment `from`; else `from` is h, and the headers that it has passed are those of the joined
-- list
abbrev pub MayJoin : Bool → Bool → Memory → List Header → ℕ → ℕ → List Header → Type 0
MayJoin upper true S L from h K = IsJoinedTo upper S L from
MayJoin upper false S L from h K = (from ≡ h) × ((done : List Header) × (L ≡ done ++ K) ×
    (join upper L ≡ done ++ join upper K))

-- a walk over L stands at segment h, with the headers K left: its choice so far, and whether and where adjacent free
-- blocks begin
pub record IsSurveying (upper : Bool) (S : Memory) (L : List Header) (strategy : Strategy) (n : ℕ) (several : Bool)
    (from h : ℕ) (choice : Choice) (K : List Header) : Type 0 where
  pub choosing : IsChoosing upper S L strategy n None h choice K
  pub joins : MayJoin upper several S L from h K

-- what a walk over L finds: the block that the strategy takes for n paragraphs, the size of the largest that it looks
-- at, and a segment up to which no free blocks are to be joined
pub record IsSurvey (upper : Bool) (S : Memory) (L : List Header) (strategy : Strategy) (n : ℕ)
    (s : Survey) : Type 0 where
  pub block_is : s.choice.block ≡ pick upper strategy n None (join upper L)
  pub largest_is : s.choice.largest ≡ largest upper strategy (join upper L)
  pub joined : IsJoinedTo upper S L s.from

-- memory spells a clear list, and e is the header of the block that begins at the segment
pub record IsOwnedAt (upper : Bool) (S : Memory) (segment : ℕ) (e : ListedHeader) : Type 0 where
  pub list : List Header
  pub arena : IsArena S first_header list
  pub found : FindsOther upper S first_header segment (Some e)
  pub fits : next e.header ≤ 0xFFFF

-- why no block is found: memory spells no clear list, or no block of the list begins at the segment, or the link block
-- does
abbrev pub IsNowhere : Bool → Memory → ℕ → ArenaRefusal → Type 0
IsNowhere upper S segment Destroyed = NoArena S first_header
IsNowhere upper S segment NoBlock = ((L : List Header) × IsArena S first_header L) ×
    FindsOther upper S first_header segment None
IsNowhere upper S segment (Short most) = ⊥
