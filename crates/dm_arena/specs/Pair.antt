-- Two blocks planned together and written together: the environment of a program, and the program's own block.
-- MS-DOS Programmer's Reference, function 4Bh.
use Rattle.std.specs.Prelude.{Bool, ◌≡◌, ℕ, ◌+◌, ◌≤◌, ◌⊎◌, min, List, ◌∷◌, ◌++◌, Result, Ok, Err}
use Rattle.dm_space.specs.Memory.{Memory}
use Rattle.dm_blocks.specs.declared.header.Header.{Header}
use Rattle.dm_arena.specs.declared.fit.Strategy.{Strategy}
use Rattle.dm_arena.specs.declared.refusal.ArenaRefusal.{ArenaRefusal}
use Rattle.dm_arena.specs.declared.refusal.ArenaRefusal.TheVariants.{Destroyed, Short, NoBlock}
use Rattle.dm_blocks.specs.Chain.{first_header, IsArena, NoArena, IsClear, Becomes}
use Rattle.dm_arena.specs.Blocks.{in_effect, join, largest, IsFit, cut_block, taken_segment}
use Rattle.dm_arena.specs.Allocation.{Taking, with_cut}

-- the block that the strategy takes for the environment; then, of the list with this block cut, the block for the
-- program, which gets the smaller of `most` paragraphs and the largest free block, and at least `least`. The program's
-- segment owns both. Each block is looked for by the strategy that is in effect in the list from which it is taken:
-- where the first block makes the link block's header, the strategy's area counts for the second block, though not for
-- the first
pub record Pairing (upper : Bool) (S : Memory) (start : ℕ) (strategy : Strategy)
    (environment least most owner size : ℕ) : Type 0 where
  pub first : Taking upper S start strategy environment
  pub before : List Header
  pub block : Header
  pub after : List Header
  pub split : with_cut first owner ≡ before ++ block ∷ after
  pub fit : IsFit upper (in_effect upper (with_cut first owner) strategy) size (with_cut first owner) block
  pub size_is : size ≡ min most (largest upper (in_effect upper (with_cut first owner) strategy) (with_cut first owner))
  pub enough : least ≤ size
  pub owner_is : owner ≡ taken_segment strategy.fit size block + 1

-- the list with both blocks of a `Pairing` taken, and the rests of the cut blocks free
abbrev pub with_pair : {upper : Bool} {S : Memory} {start : ℕ} {strategy : Strategy}
    {environment least most owner size : ℕ} → Pairing upper S start strategy environment least most owner size →
    List Header
with_pair {upper} {S} {start} {strategy} {environment} {least} {most} {owner} {size} p =
    p.before ++ (cut_block strategy.fit size owner p.block ++ p.after)

-- why no pair is allocated: `Destroyed` if S spells no clear list, or the list with both blocks would not be clear;
-- `Short` if there is no room for both, where `room` is the largest free block that the strategy looks at for the
-- first one. `NoBlock` is never returned
abbrev pub PairRefused : Bool → Memory → ℕ → Strategy → ℕ → ℕ → ℕ → ArenaRefusal → Type 0
PairRefused upper S start strategy environment least most Destroyed =
    NoArena S start
    ⊎ ((owner : ℕ) × (size : ℕ) × (p : Pairing upper S start strategy environment least most owner size) ×
    (IsClear S (with_pair p) → ⊥))
PairRefused upper S start strategy environment least most (Short room) =
    (L : List Header) × IsArena S start L × (room ≡ largest upper (in_effect upper L strategy) (join upper L))
    × ((owner size : ℕ) → Pairing upper S start strategy environment least most owner size → ⊥)
PairRefused upper S start strategy environment least most NoBlock = ⊥

-- a planned pair, as contracts see it: the segments of the environment and of the program's block, which owns both,
-- and the size of the program's block in paragraphs; and the headers to be written, `first` for the environment's cut
-- block and `second` for the program's
pub record Planned : Type 0 where
  pub environment : ℕ
  pub program : ℕ
  pub size : ℕ
  pub first : List Header
  pub second : List Header

-- `pair` is the plan of a `Pairing` on the memory S, and the list with both blocks is clear
pub record IsPair (upper : Bool) (S : Memory) (start : ℕ) (strategy : Strategy) (environment least most : ℕ)
    (pair : Planned) : Type 0 where
  pub pairing : Pairing upper S start strategy environment least most pair.program pair.size
  pub environment_is : pair.environment ≡ taken_segment strategy.fit environment pairing.first.block + 1
  pub first_is : pair.first ≡ cut_block strategy.fit environment pair.program pairing.first.block
  pub second_is : pair.second ≡ cut_block strategy.fit pair.size pair.program pairing.block
  pub clear : IsClear S (with_pair pairing)

-- where the blocks of a pair are: the segments of the environment and of the program's block, and the size of the
-- latter in paragraphs
pub record Placed : Type 0 where
  pub environment : ℕ
  pub program : ℕ
  pub size : ℕ

-- where the blocks of a planned pair are
abbrev pub placed_of : Planned → Placed
placed_of pair = record { environment = pair.environment; program = pair.program; size = pair.size }

-- a pair planned and written, from memory S to memory T: the headers of the list with both blocks are all that
-- changes; an error leaves memory unchanged. `upper` is the setting whether upper memory belongs to the arena
abbrev pub Pairs : Bool → Memory → Strategy → ℕ → ℕ → ℕ → Result Placed ArenaRefusal → Memory → Type 0
Pairs upper S strategy environment least most (Ok placed) T =
    (pair : Planned) × (p : IsPair upper S first_header strategy environment least most pair) ×
    (placed ≡ placed_of pair)
    × Becomes S first_header (with_pair p.pairing) T
Pairs upper S strategy environment least most (Err e) T = (T ≡ S) ×
    PairRefused upper S first_header strategy environment least most e

-- the pair was planned on this memory and setting, for some strategy and sizes
pub record IsPlannedOn (upper : Bool) (S : Memory) (pair : Planned) : Type 0 where
  pub strategy : Strategy
  pub environment : ℕ
  pub least : ℕ
  pub most : ℕ
  pub planned : IsPair upper S first_header strategy environment least most pair
