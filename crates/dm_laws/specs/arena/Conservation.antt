-- What successful calls of the arena keep: the end of the list, and every used block but the one that the call is
-- about. The lists are those that memory spells before and after the call, `old` and `new`; memory spells one at most.
-- `upper` is the setting whether upper memory belongs to the arena.
-- MS-DOS Programmer's Reference, functions 48h, 49h and 4Ah.
use Rattle.std.specs.Prelude.{Bool, List, Ok, false, true, ℕ, ◌+◌, ◌≡◌, ◌≢◌, ◌⊎◌}
use Rattle.dm_space.specs.Memory.{Memory}
use Rattle.dm_blocks.specs.declared.header.Header.{Header}
use Rattle.dm_blocks.specs.Chain.{IsArena, first_header, is_free, is_linked}
use Rattle.dm_arena.specs.declared.fit.Strategy.{Strategy}
use Rattle.dm_arena.specs.Allocation.{Allocates}
use Rattle.dm_arena.specs.Blocks.{IsIn, join}
use Rattle.dm_arena.specs.Owned.{Frees, Resizes, freed}
use Rattle.dm_laws.specs.arena.Paragraphs.{IsInFree, IsPartOf, paragraphs_taken}

-- the new list has a block of the wanted size and owner at the returned segment, whose paragraphs all were free; each
-- used block is kept, and every block with an owner was there before or is the new one. (A block counts as used if it
-- has an owner, or is the link block.)
pub record Allocated (upper : Bool) (S T : Memory) (n owner segment : ℕ) : Type 0 where
  pub old : List Header
  pub new : List Header
  pub block : Header
  pub spelled : IsArena S first_header old
  pub becomes : IsArena T first_header new
  pub end : paragraphs_taken new ≡ paragraphs_taken old
  pub there : IsIn block new
  pub at : block.segment + 1 ≡ segment
  pub owned : block.owner ≡ owner
  pub sized : block.size ≡ n
  pub free : (p : ℕ) → IsPartOf p block → IsInFree upper old p
  pub kept : (b : Header) → IsIn b old → is_free upper b ≡ false → IsIn b new
  pub others : (b : Header) → IsIn b new → b.owner ≢ 0 → IsIn b old ⊎ (b ≡ block)

-- 48h, if it succeeds, conserves the blocks
abbrev pub AllocationConservesBlocks : Type 0
AllocationConservesBlocks =
    (upper : Bool) (S T : Memory) (strategy : Strategy) (n owner segment : ℕ) →
    Allocates upper S strategy n owner (Ok segment) T → Allocated upper S T n owner segment

-- the block at the segment becomes free where it is; each other block is kept, and every other block was there before
pub record Freed (S T : Memory) (segment : ℕ) : Type 0 where
  pub old : List Header
  pub new : List Header
  pub block : Header
  pub spelled : IsArena S first_header old
  pub becomes : IsArena T first_header new
  pub end : paragraphs_taken new ≡ paragraphs_taken old
  pub there : IsIn block old
  pub at : block.segment + 1 ≡ segment
  pub free : IsIn (freed block) new
  pub kept : (b : Header) → IsIn b old → b.segment ≢ block.segment → IsIn b new
  pub others : (b : Header) → IsIn b new → b.segment ≢ block.segment → IsIn b old

-- 49h, if it succeeds, conserves the blocks
abbrev pub FreeingConservesBlocks : Type 0
FreeingConservesBlocks = (upper : Bool) (S T : Memory) (segment : ℕ) → Frees upper S segment (Ok tt) T →
    Freed S T segment

-- the block at the segment has the wanted size, and its owner as before; its paragraphs all were its own or free; each
-- other used block is kept, and every other block with an owner was there before
pub record Resized (upper : Bool) (S T : Memory) (segment n : ℕ) : Type 0 where
  pub old : List Header
  pub new : List Header
  pub block : Header
  pub spelled : IsArena S first_header old
  pub becomes : IsArena T first_header new
  pub end : paragraphs_taken new ≡ paragraphs_taken old
  pub there : IsIn block old
  pub at : block.segment + 1 ≡ segment
  pub sized : IsIn (record block { size = n }) new
  pub free : (p : ℕ) → IsPartOf p (record block { size = n }) → IsPartOf p block ⊎ IsInFree upper old p
  pub kept : (b : Header) → IsIn b old → b.segment ≢ block.segment → is_free upper b ≡ false → IsIn b new
  pub others : (b : Header) → IsIn b new → b.segment ≢ block.segment → b.owner ≢ 0 → IsIn b old

-- 4Ah, if it succeeds, conserves the blocks
abbrev pub ResizingConservesBlocks : Type 0
ResizingConservesBlocks = (upper : Bool) (S T : Memory) (segment n : ℕ) → Resizes upper S segment n (Ok tt) T →
    Resized upper S T segment n

-- 48h and then 49h of the new block leave the same list, once free blocks side by side are joined in both. Where upper
-- memory belongs to the arena, the list must not come to have a header at the link block's segment by this: that
-- header's block would count as used, whatever its owner. (It can only where the old list passes over that segment, as
-- no list does that DOS made.)
abbrev pub AllocateThenFreeJoins : Type 0
AllocateThenFreeJoins =
    (upper : Bool) (S T U : Memory) (strategy : Strategy) (n owner segment : ℕ) (old new : List Header) →
    Allocates upper S strategy n owner (Ok segment) T
    → Frees upper T segment (Ok tt) U → IsArena S first_header old → IsArena U first_header new
    → (upper ≡ true → is_linked new ≡ is_linked old) → join upper new ≡ join upper old
