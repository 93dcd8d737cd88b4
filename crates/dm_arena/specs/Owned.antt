-- Blocks that are owned: freed (49h), resized (4Ah, and 31h for the block of a program that stays resident), and all
-- blocks of one owner freed at the end of a program.
-- `upper` is the setting whether upper memory belongs to the arena: only then is there a link block.
-- MS-DOS Programmer's Reference, functions 49h and 4Ah.
use Rattle.std.specs.Prelude.{Bool, Err, List, Ok, Result, [], false, if◌then◌else◌, true, ℕ, ◌&&◌, ◌++◌, ◌+◌, ◌<◌, ◌==◌, ◌∷◌, ◌≡◌, ◌≤◌, ◌⊎◌}
use Rattle.dm_space.specs.Memory.{Memory}
use Rattle.dm_blocks.specs.declared.header.Header.{Header}
use Rattle.dm_arena.specs.declared.refusal.ArenaRefusal.{ArenaRefusal}
use Rattle.dm_arena.specs.declared.refusal.ArenaRefusal.TheVariants.{Destroyed, NoBlock, Short}
use Rattle.dm_blocks.specs.Chain.{Becomes, DiffersInHeaders, IsArena, IsArenaBehind, IsChain, IsClear, NoArena, NoArenaBehind, NoBlockAt, first_header, is_free, is_parted, link_header}
use Rattle.dm_arena.specs.Blocks.{cut_low, merge}

-- the segment is A000h, where the link block begins, and upper memory belongs to the arena: functions 49h and 4Ah
-- refuse it
abbrev pub is_link_block : Bool → ℕ → Bool
is_link_block upper segment = upper && (segment == 0xA000)

-- for 49h: S spells the clear list `list`, in which `block` begins at the segment and isn't the link block
pub record BlockAt (upper : Bool) (S : Memory) (start : ℕ) (segment : ℕ) : Type 0 where
  pub list : List Header
  pub before : List Header
  pub block : Header
  pub after : List Header
  pub arena : IsArena S start list
  pub is : list ≡ before ++ block ∷ after
  pub at : block.segment + 1 ≡ segment
  pub other : is_link_block upper segment ≡ false

-- the header with owner 0
abbrev pub freed : Header → Header
freed b = record b { owner = 0 }

-- no block of L begins at the segment, or the link block does
abbrev pub IsNoBlock : Bool → List Header → ℕ → Type 0
IsNoBlock upper L segment = NoBlockAt L segment ⊎ (is_link_block upper segment ≡ true)

-- why a block is not freed (49h): `Destroyed` if S spells no clear list, `NoBlock` if the segment has no block that
-- may be freed. `Short` is never returned
abbrev pub FreeRefused : Bool → Memory → ℕ → ℕ → ArenaRefusal → Type 0
FreeRefused upper S start segment Destroyed = NoArena S start
FreeRefused upper S start segment (Short most) = ⊥
FreeRefused upper S start segment NoBlock = (L : List Header) × IsArena S start L × IsNoBlock upper L segment

-- function 49h: the block that begins at a segment becomes free, from memory S to memory T, and the owner in its header
-- is all that changes; an error leaves memory unchanged
abbrev pub Frees : Bool → Memory → ℕ → Result (Unit {0}) ArenaRefusal → Memory → Type 0
Frees upper S segment (Ok u) T = (b : BlockAt upper S first_header segment) × Becomes S first_header (b.before
    ++ freed b.block ∷ b.after) T
Frees upper S segment (Err e) T = (T ≡ S) × FreeRefused upper S first_header segment e

-- the header b with the blocks of the list taken into its block, by 4Ah; segment and owner stay
abbrev pub absorb : Header → List Header → Header
absorb b [] = b
absorb b (c ∷ R) = absorb (merge b c) R

-- each block of the list, which 4Ah takes in, is free
abbrev pub AllFree : Bool → List Header → Type 0
AllFree upper [] = Unit {0}
AllFree upper (b ∷ L) = (is_free upper b ≡ true) × AllFree upper L

-- the list, which follows such free blocks, is empty, or its first block is not free
abbrev pub BeginsTaken : Bool → List Header → Type 0
BeginsTaken upper [] = Unit {0}
BeginsTaken upper (b ∷ L) = is_free upper b ≡ false

-- for 4Ah: S spells the clear list `list`, in which `block` begins at the segment and isn't the link block;
-- `free_after` are the free blocks right after it, and `after` the blocks after those
pub record BlockAndFreeAt (upper : Bool) (S : Memory) (start : ℕ) (segment : ℕ) : Type 0 where
  pub list : List Header
  pub before : List Header
  pub block : Header
  pub free_after : List Header
  pub after : List Header
  pub arena : IsArena S start list
  pub is : list ≡ before ++ block ∷ (free_after ++ after)
  pub at : block.segment + 1 ≡ segment
  pub other : is_link_block upper segment ≡ false
  pub free : AllFree upper free_after
  pub stops : BeginsTaken upper after

-- the new list of function 4Ah: the block with the free blocks right after it cut to n paragraphs at the low end, its
-- owner as before; the rest is free
abbrev pub resized : {upper : Bool} {S : Memory} {start : ℕ} {segment : ℕ} → BlockAndFreeAt upper S start segment → ℕ →
    List Header
resized {upper} {S} {start} {segment} r n = r.before ++ (cut_low n r.block.owner
    (absorb r.block r.free_after) ++ r.after)

-- why function 4Ah fails: `Destroyed` if S spells no clear list, or the resized list would not be clear; `Short` if
-- the block with the free blocks right after it has only `most` paragraphs, fewer than n; `NoBlock` if no block begins
-- at the segment, or the link block does
abbrev pub ResizeRefused : Bool → Memory → ℕ → ℕ → ℕ → ArenaRefusal → Type 0
ResizeRefused upper S start segment n Destroyed = NoArena S start ⊎ ((r : BlockAndFreeAt upper S start segment) ×
    (n ≤ (absorb r.block r.free_after).size) × (IsClear S (resized r n) → ⊥))
ResizeRefused upper S start segment n (Short most) = (r : BlockAndFreeAt upper S start segment) ×
    (most ≡ (absorb r.block r.free_after).size) × (most < n)
ResizeRefused upper S start segment n NoBlock = (L : List Header) × IsArena S start L × IsNoBlock upper L segment

-- function 4Ah: the block that begins at a segment gets n paragraphs, which may be 0, from memory S to memory T, and
-- the headers of the resized list are all that changes; an error leaves memory unchanged
abbrev pub Resizes : Bool → Memory → ℕ → ℕ → Result (Unit {0}) ArenaRefusal → Memory → Type 0
Resizes upper S segment n (Ok u) T = (r : BlockAndFreeAt upper S first_header segment) × (n ≤
    (absorb r.block r.free_after).size) ×
    Becomes S first_header (resized r n) T
Resizes upper S segment n (Err e) T = (T ≡ S) × ResizeRefused upper S first_header segment n e

-- the header, with owner 0 if its owner is the given one
abbrev pub released_block : ℕ → Header → Header
released_block owner b = record b { owner = (if b.owner == owner then 0 else b.owner) }

-- the list with each block of the owner freed; nothing is joined
abbrev pub released : ℕ → List Header → List Header
released owner [] = []
released owner (b ∷ L) = released_block owner b ∷ released owner L

-- the owner's blocks in the first list are freed, where that is the only list, or is linked with upper memory
pub record ReleasesOne (upper : Bool) (S : Memory) (owner : ℕ) (T : Memory) : Type 0 where
  pub list : List Header
  pub arena : IsArena S first_header list
  pub alone : is_parted upper list ≡ false
  pub becomes : Becomes S first_header (released owner list) T

-- the owner's blocks in both lists are freed, where the two are not linked; they share no header and are clear
-- together
pub record ReleasesBoth (upper : Bool) (S : Memory) (owner : ℕ) (T : Memory) : Type 0 where
  pub first : List Header
  pub second : List Header
  pub arena : IsArena S first_header first
  pub parted : is_parted upper first ≡ true
  pub behind : IsArenaBehind S first link_header second
  pub first_chain : IsChain T first_header (released owner first)
  pub second_chain : IsChain T link_header (released owner second)
  pub differs : DiffersInHeaders S (released owner first ++ released owner second) T

-- why an owner's blocks are not freed: S spells no clear first list; or upper memory has a list by itself, and S
-- spells none there that is clear together with the first
abbrev pub ReleaseRefused : Bool → Memory → Type 0
ReleaseRefused upper S = NoArena S first_header ⊎ ((L : List Header) × IsArena S first_header L ×
    (is_parted upper L ≡ true) × NoArenaBehind S L link_header)

-- each block of an owner is freed, from memory S to memory T; the only error is `Destroyed`, which leaves memory
-- unchanged
abbrev pub Releases : Bool → Memory → ℕ → Result (Unit {0}) ArenaRefusal → Memory → Type 0
Releases upper S owner (Ok u) T = ReleasesOne upper S owner T ⊎ ReleasesBoth upper S owner T
Releases upper S owner (Err e) T = (T ≡ S) × (e ≡ Destroyed) × ReleaseRefused upper S
