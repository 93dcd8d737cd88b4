-- Laws of the calls of the arena: each that writes (48h, 49h, 4Ah, 5803h, the two blocks of 4Bh, and the end of a
-- program) has one result; and what the definitions say where upper memory doesn't belong to the arena.
use Rattle.std.specs.Prelude.{◌≡◌, ◌==◌, ℕ, Bool, false, List, Result}
use Rattle.dm_space.specs.Memory.{Memory}
use Rattle.dm_arena.specs.declared.refusal.ArenaRefusal.{ArenaRefusal}
use Rattle.dm_arena.specs.declared.fit.Strategy.{Strategy}
use Rattle.dm_arena.specs.Allocation.{Allocates}
use Rattle.dm_arena.specs.Owned.{Frees, Resizes, Releases, is_link_block}
use Rattle.dm_arena.specs.Blocks.{in_effect, is_candidate, prefers, prefers_by}
use Rattle.dm_blocks.specs.declared.header.Header.{Header}
use Rattle.dm_blocks.specs.Chain.{is_free, is_parted}
use Rattle.dm_arena.specs.Pair.{Placed, Pairs}
use Rattle.dm_arena.specs.Linking.{Links}

-- an allocation (48h) has one result, and leaves one memory
abbrev pub AllocationHasOneAnswer : Type 0
AllocationHasOneAnswer = (upper : Bool) (S : Memory) (strategy : Strategy) (n owner : ℕ) (r q : Result ℕ ArenaRefusal)
    (T U : Memory) → Allocates upper S strategy n owner r T → Allocates upper S strategy n owner q U → (r ≡ q) × (T ≡ U)

-- freeing a block (49h) has one result, and leaves one memory
abbrev pub FreeingHasOneAnswer : Type 0
FreeingHasOneAnswer = (upper : Bool) (S : Memory) (segment : ℕ) (r q : Result (Unit {0}) ArenaRefusal) (T U : Memory) →
    Frees upper S segment r T → Frees upper S segment q U → (r ≡ q) × (T ≡ U)

-- resizing a block (4Ah) has one result, and leaves one memory
abbrev pub ResizingHasOneAnswer : Type 0
ResizingHasOneAnswer = (upper : Bool) (S : Memory) (segment n : ℕ) (r q : Result (Unit {0}) ArenaRefusal)
    (T U : Memory) → Resizes upper S segment n r T → Resizes upper S segment n q U → (r ≡ q) × (T ≡ U)

-- freeing all blocks of an owner, as at the end of a program, has one result, and leaves one memory
abbrev pub ReleasingHasOneAnswer : Type 0
ReleasingHasOneAnswer = (upper : Bool) (S : Memory) (owner : ℕ) (r q : Result (Unit {0}) ArenaRefusal) (T U : Memory) →
    Releases upper S owner r T → Releases upper S owner q U → (r ≡ q) × (T ≡ U)

-- allocating the two blocks of a program, the environment's and its own (4Bh), has one result, and leaves one memory
abbrev pub PairingHasOneAnswer : Type 0
PairingHasOneAnswer = (upper : Bool) (S : Memory) (strategy : Strategy) (environment least most : ℕ)
    (r q : Result Placed ArenaRefusal) (T U : Memory) → Pairs upper S strategy environment least most r T →
    Pairs upper S strategy environment least most q U → (r ≡ q) × (T ≡ U)

-- linking the arena with upper memory, or unlinking it (5803h), has one result, and leaves one memory
abbrev pub LinkingHasOneAnswer : Type 0
LinkingHasOneAnswer = (S : Memory) (on : Bool) (r q : Result (Unit {0}) ArenaRefusal) (T U : Memory) → Links S on r T →
    Links S on q U → (r ≡ q) × (T ≡ U)

-- what the definitions say where upper memory doesn't belong to the arena: a block is free if its owner is 0, each
-- strategy looks at all free blocks and chooses by its fit alone, no block is the link block, and there is no second
-- list
pub record IsConventional : Type 0 where
  pub free : (b : Header) → is_free false b ≡ (b.owner == 0)
  pub whole : (L : List Header) (strategy : Strategy) (b : Header) → is_candidate false (in_effect false L strategy) b
      ≡ (b.owner == 0)
  pub by_fit : (L : List Header) (strategy : Strategy) (b c : Header) → prefers (in_effect false L strategy) b c
      ≡ prefers_by strategy.fit b c
  pub any : (segment : ℕ) → is_link_block false segment ≡ false
  pub one : (L : List Header) → is_parted false L ≡ false
