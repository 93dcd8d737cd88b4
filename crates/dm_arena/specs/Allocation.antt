-- Function 48h, Allocate Memory: what a call returns, and the memory that it leaves.
-- MS-DOS Programmer's Reference, function 48h.
use Rattle.std.specs.Prelude.{Bool, Err, IsTrue, List, Ok, Result, ℕ, ◌++◌, ◌+◌, ◌∷◌, ◌≡◌, ◌⊎◌}
use Rattle.dm_space.specs.Memory.{Memory}
use Rattle.dm_blocks.specs.declared.header.Header.{Header}
use Rattle.dm_arena.specs.declared.refusal.ArenaRefusal.{ArenaRefusal}
use Rattle.dm_arena.specs.declared.refusal.ArenaRefusal.TheVariants.{Destroyed, NoBlock, Short}
use Rattle.dm_arena.specs.declared.fit.Strategy.{Strategy}
use Rattle.dm_blocks.specs.Chain.{Becomes, IsArena, IsClear, NoArena, first_header}
use Rattle.dm_arena.specs.Blocks.{IsFit, IsIn, cut_block, fits, in_effect, join, largest, taken_segment}

-- S spells the clear list `list`, and `block` is the free block of the joined list that the strategy takes for n
-- paragraphs; `before` and `after` are the other blocks of the joined list
pub record Taking (upper : Bool) (S : Memory) (start : ℕ) (strategy : Strategy) (n : ℕ) : Type 0 where
  pub list : List Header
  pub before : List Header
  pub block : Header
  pub after : List Header
  pub arena : IsArena S start list
  pub joined : join upper list ≡ before ++ block ∷ after
  pub fit : IsFit upper (in_effect upper list strategy) n (join upper list) block

-- the joined list with the block of a `Taking` cut: n paragraphs belong to the owner, the rest is free
abbrev pub with_cut : {upper : Bool} {S : Memory} {start : ℕ} {strategy : Strategy} {n : ℕ} →
    Taking upper S start strategy n → ℕ → List Header
with_cut {upper} {S} {start} {strategy} {n} t owner = t.before ++ (cut_block strategy.fit n owner t.block ++ t.after)

-- why an allocation fails: `Destroyed` if S spells no clear list, or the new list would not be clear; `Short` if no
-- free block that the strategy looks at has n paragraphs, where `most` is the largest of them, 0 if there is none.
-- `NoBlock` is never returned
abbrev pub AllocateRefused : Bool → Memory → ℕ → Strategy → ℕ → ℕ → ArenaRefusal → Type 0
AllocateRefused upper S start strategy n owner Destroyed = NoArena S start ⊎ ((t : Taking upper S start strategy n) ×
    (IsClear S (with_cut t owner) → ⊥))
AllocateRefused upper S start strategy n owner (Short most) =
    (L : List Header) × IsArena S start L × (most ≡ largest upper (in_effect upper L strategy) (join upper L))
    × ((b : Header) → IsIn b (join upper L) → IsTrue (fits upper (in_effect upper L strategy) n b) → ⊥)
AllocateRefused upper S start strategy n owner NoBlock = ⊥

-- the allocation of n paragraphs for an owner, from memory S to memory T: the segment of the new block, with S
-- changed in the headers of the new list only; or an error, with S unchanged. `upper` is the setting whether upper
-- memory belongs to the arena
abbrev pub Allocates : Bool → Memory → Strategy → ℕ → ℕ → Result ℕ ArenaRefusal → Memory → Type 0
Allocates upper S strategy n owner (Ok segment) T =
    (t : Taking upper S first_header strategy n) × (segment ≡ taken_segment strategy.fit n t.block + 1) ×
    Becomes S first_header (with_cut t owner) T
Allocates upper S strategy n owner (Err e) T = (T ≡ S) × AllocateRefused upper S first_header strategy n owner e
