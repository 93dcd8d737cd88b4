-- How far the walks over headers have come, and what the private steps of the calls do. For private contracts and
-- proofs alone: a reader who checks what the calls promise can leave this file out.
use Rattle.std.specs.Prelude.{Bool, List, None, Option, Some, [], cond, false, if◌then◌else◌, max, option_to_list, true, ℕ, ◌&&◌, ◌*◌, ◌++◌, ◌+◌, ◌-◌, ◌<◌, ◌==◌, ◌∷◌, ◌≡◌, ◌≢◌}
use Rattle.dm_space.specs.declared.place.Place.{Place}
use Rattle.dm_space.specs.Memory.{Memory, byte_at, place}
use Rattle.dm_space.specs.Places.{IsShaped, IsWritable}
use Rattle.dm_blocks.specs.declared.header.Header.{Header}
use Rattle.dm_blocks.specs.declared.header.ListedHeader.{ListedHeader}
use Rattle.dm_blocks.specs.Chain.{DiffersInHeaders, HasHeader, IsArena, IsClear, IsHeader, IsNonEmpty, Spells, next}
use Rattle.dm_arena.specs.declared.fit.Strategy.{Strategy}
use Rattle.dm_arena.specs.declared.fit.Spoken.{Spoken}
use Rattle.dm_arena.specs.declared.fit.Choice.{Choice}
use Rattle.dm_arena.specs.Blocks.{cut_block, fits, join, join_after, largest, prefers, taken_segment}
use Rattle.dm_arena.specs.inner.Blocks.{cut_list}
use Rattle.dm_arena.specs.declared.fit.Fit.{Fit}
use Rattle.dm_arena.specs.declared.fit.Fit.TheVariants.{Best, First, Last}
use Rattle.dm_blocks.specs.Reading.{IsFoundAt, IsSpelledFrom, is_nil}
use Rattle.dm_arena.specs.Owned.{AllFree, IsNoBlock, absorb, is_link_block, released}
use Rattle.dm_arena.specs.declared.allocation.Plan.{Plan}
use Rattle.dm_arena.specs.Allocation.{Taking, with_cut}
use Rattle.dm_blocks.specs.inner.Standing.{Occupies}
use Rattle.dm_arena.specs.inner.Standing.{OccupiesOutside}

-- T is S with the five bytes of the header b written, where its place keeps them; no other place changes
pub record IsHeaderWritten (S : Memory) (b : Header) (signature : ℕ) (T : Memory) : Type 0 where
  pub shape : IsShaped S T
  pub written : IsWritable (place S (16 * b.segment)) → IsHeader T b signature
  pub kept : (p : Place) → ((k : ℕ) → k < 5 → p ≢ place S (16 * b.segment + k)) → byte_at T p ≡ byte_at S p

-- e is the first block of L once adjacent free blocks are joined, and K the headers of L after it
pub record IsJoinedFront (upper : Bool) (S : Memory) (L : List Header) (e : ListedHeader)
    (K : List Header) : Type 0 where
  pub is : join upper L ≡ e.header ∷ join upper K
  pub last : e.last ≡ is_nil K
  pub rest : Spells S (next e.header) K
  pub within : (g : ℕ) → HasHeader K g → HasHeader L g

-- e is the first block of L with the free blocks after it taken in so far, and K the headers that are left
pub record IsJoining (upper : Bool) (S : Memory) (L : List Header) (e : ListedHeader) (K : List Header) : Type 0 where
  pub is : join upper L ≡ join_after upper e.header K
  pub last : e.last ≡ is_nil K
  pub rest : Spells S (next e.header) K
  pub within : (g : ℕ) → HasHeader K g → HasHeader L g

-- a search of the joined list of L for a header at the place p stands at segment h, with the headers K left: the
-- joined list of L has one exactly if that of K has one
pub record IsLooking (upper : Bool) (S : Memory) (L : List Header) (p : Place) (h : ℕ) (K : List Header) : Type 0 where
  pub spelled : IsSpelledFrom S h K
  pub forth : Occupies S (join upper L) p → Occupies S (join upper K) p
  pub back : Occupies S (join upper K) p → Occupies S (join upper L) p

-- a search of L, but for its headers between segments `low` and `high`, for one at the place p stands at segment h,
-- with the headers K left: L has one exactly if K has one
pub record IsLookingOutside (S : Memory) (L : List Header) (low high : ℕ) (p : Place) (h : ℕ)
    (K : List Header) : Type 0 where
  pub spelled : IsSpelledFrom S h K
  pub forth : OccupiesOutside S L low high p → OccupiesOutside S K low high p
  pub back : OccupiesOutside S K low high p → OccupiesOutside S L low high p

-- T spells the joined list of L from segment start on, and is S but for the headers of the joined list
pub record IsJoined (upper : Bool) (S : Memory) (start : ℕ) (L : List Header) (T : Memory) : Type 0 where
  pub spells : Spells T start (join upper L)
  pub differs : DiffersInHeaders S (join upper L) T

-- while the list L is joined in place, from S to T so far: the headers `done` are written, and those of K are left from
-- segment h on
pub record IsJoiningAll (upper : Bool) (S : Memory) (start : ℕ) (L : List Header) (T : Memory) (h : ℕ)
    (done K : List Header) : Type 0 where
  pub rest : Spells T h K
  pub spells : Spells T start (done ++ K)
  pub is : done ++ join upper K ≡ join upper L
  pub within : (g : ℕ) → HasHeader (done ++ K) g → HasHeader L g
  pub differs : DiffersInHeaders S done T

-- the headers C lie end to end from h to t
abbrev pub Fills : ℕ → List Header → ℕ → Type 0
Fills h [] t = h ≡ t
Fills h (c ∷ C) t = (c.segment ≡ h) × Fills (next c) C t

-- the blocks B between P and Q, from segment h to segment t, may be replaced by the blocks C, which fill the same
-- paragraphs; the new list is clear. `last` says that Q is empty
pub record IsReplaceable (S : Memory) (start : ℕ) (P B Q C : List Header) (last : Bool) (h t : ℕ) : Type 0 where
  pub nonempty : IsNonEmpty B
  pub spells : Spells S start (P ++ (B ++ Q))
  pub old_fills : Fills h B t
  pub new_fills : Fills h C t
  pub end : last ≡ is_nil Q
  pub clear : IsClear S (P ++ (C ++ Q))

-- T spells the list P, C, Q from segment start on, and is S but for the headers C
pub record IsReplaced (S : Memory) (start : ℕ) (P Q C : List Header) (T : Memory) : Type 0 where
  pub spells : Spells T start (P ++ (C ++ Q))
  pub differs : DiffersInHeaders S C T

-- the block that the search of an allocation takes once it has met c, where b, or None, was the best so far
abbrev pub better : Bool → Strategy → ℕ → Option Header → Header → Option Header
better upper strategy n None c = cond (fits upper strategy n c) (Some c) None
better upper strategy n (Some b) c = cond (fits upper strategy n c && prefers strategy c b) (Some c) (Some b)

-- the block that a search takes from L, where `best` is the best of the blocks before; None if no block fits
abbrev pub pick : Bool → Strategy → ℕ → Option Header → List Header → Option Header
pick upper strategy n best [] = best
pick upper strategy n best (c ∷ L) = pick upper strategy n (better upper strategy n best c) L

-- the part of a block that is left to choose from: the whole block; but of the block that the first of a pair is cut
-- from, only its rest, None if it has none
abbrev pub left_part : Option Spoken → Header → Option Header
left_part None b = Some b
left_part (Some s) b = if s.segment == b.segment then s.rest else Some b

-- the blocks of the list, or parts of them, that are left to choose from
abbrev pub left_of : Option Spoken → List Header → List Header
left_of spoken [] = []
left_of spoken (b ∷ L) = option_to_list (left_part spoken b) ++ left_of spoken L

-- the free part of the block b once n paragraphs, fewer than it has, are cut from it by this fit
abbrev pub rest_block : Fit → ℕ → Header → Header
rest_block First n b = record { segment = b.segment + 1 + n; owner = 0; size = b.size - n - 1 }
rest_block Best n b = record { segment = b.segment + 1 + n; owner = 0; size = b.size - n - 1 }
rest_block Last n b = record { segment = b.segment; owner = 0; size = b.size - n - 1 }

-- the free part of the block b once n paragraphs are cut from it by this fit; None if n is the block's whole size
abbrev pub rest_of : Fit → ℕ → Header → Option Header
rest_of fit n b = if b.size == n then None else Some (rest_block fit n b)

-- a search of the joined list stands at segment h, with the headers K left: what it still may find, together with its
-- choice so far, is the result for the whole list
pub record IsChoosing (upper : Bool) (S : Memory) (L : List Header) (strategy : Strategy) (n : ℕ)
    (spoken : Option Spoken) (h : ℕ) (choice : Choice) (K : List Header) : Type 0 where
  pub spelled : IsSpelledFrom S h K
  pub block_is : pick upper strategy n choice.block (left_of spoken (join upper K))
      ≡ pick upper strategy n None (left_of spoken (join upper L))
  pub largest_is : max choice.largest (largest upper strategy (left_of spoken (join upper K)))
      ≡ largest upper strategy (left_of spoken (join upper L))

-- `plan` is what an allocation of n paragraphs for the owner writes and returns, and the new list is clear
pub record IsPlan (upper : Bool) (S : Memory) (start : ℕ) (strategy : Strategy) (n owner : ℕ)
    (plan : Plan) : Type 0 where
  pub taking : Taking upper S start strategy n
  pub cut_is : cut_list plan.cut ≡ cut_block strategy.fit n owner taking.block
  pub segment_is : plan.segment ≡ taken_segment strategy.fit n taking.block + 1
  pub clear : IsClear S (with_cut taking owner)

-- the headers C may stand in the place of `block` of the joined list: they fill the same paragraphs, and the new list
-- is clear
pub record Placing (upper : Bool) (S : Memory) (start : ℕ) (C : List Header) : Type 0 where
  pub list : List Header
  pub before : List Header
  pub block : Header
  pub after : List Header
  pub arena : IsArena S start list
  pub joined : join upper list ≡ before ++ block ∷ after
  pub fills : Fills block.segment C (next block)
  pub clear : IsClear S (before ++ (C ++ after))

-- while 4Ah makes a block larger: g is e with the free blocks R, the first of K, taken in; the headers Q are left
pub record IsGrown (upper : Bool) (S : Memory) (e : ListedHeader) (K : List Header) (g : ListedHeader)
    (R Q : List Header) : Type 0 where
  pub is : K ≡ R ++ Q
  pub free : AllFree upper R
  pub header : g.header ≡ absorb e.header R
  pub last : g.last ≡ is_nil Q
  pub rest : Spells S (next g.header) Q

-- K are the headers that memory spells after the block of e, and e is marked last if there are none
pub record IsGrowable (S : Memory) (e : ListedHeader) (K : List Header) : Type 0 where
  pub last : e.last ≡ is_nil K
  pub rest : Spells S (next e.header) K

-- while an owner's blocks are freed in the list L, from S to T so far: those of P are, and the headers K are left from
-- segment h on
pub record IsReleasing (S : Memory) (start : ℕ) (owner : ℕ) (L : List Header) (T : Memory) (h : ℕ)
    (P K : List Header) : Type 0 where
  pub rest : Spells T h K
  pub spells : Spells T start (released owner P ++ K)
  pub is : L ≡ P ++ K
  pub differs : DiffersInHeaders S (released owner P) T

-- the result of a search, for 49h and 4Ah, for the block that begins at the segment: None if there is none, or if it is
-- the link block; else its header, and whether it is the last one
abbrev pub FindsOther : Bool → Memory → ℕ → ℕ → Option ListedHeader → Type 0
FindsOther upper S start segment None = (L : List Header) → IsSpelledFrom S start L → IsNoBlock upper L segment
FindsOther upper S start segment (Some e) =
    (is_link_block upper segment ≡ false) × ((L : List Header) → IsSpelledFrom S start L → (P : List Header) ×
    (Q : List Header) × IsFoundAt S L segment e P Q)
