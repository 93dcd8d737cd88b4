-- Two laws of pools: the lowest gap that holds a block is the first in the list of gaps that does, and how many blocks
-- can be taken.
use Rattle.std.specs.Prelude.{◌≡◌, ℕ, zero, suc, ◌<◌, ◌≤◌, ◌↔◌, IsSome, is_none, count_by, List, Option, Some, None}
use Rattle.dm_pool.specs.declared.extent.Extent.{Extent}
use Rattle.dm_pool.specs.Blocks.{Blocks, taken}
use Rattle.dm_pool.specs.FreeList.{AreBased}
use Rattle.dm_pool.specs.Gaps.{gaps, lowest, first_fit, count_fitting}

-- in a pool whose blocks of no unit have the base 0, the lowest gap that holds a block of at least one unit is the
-- first of the gaps that does
abbrev pub LowestIsFirstFit : Type 0
LowestIsFirstFit = (bs : List (Option Extent)) (n u : ℕ) → AreBased bs → 0 < u → lowest bs n u ≡ first_fit (gaps bs n) u

-- how many numbers have no block
abbrev pub free_numbers : Blocks → ℕ
free_numbers s = count_by is_none s.places

-- the pool after a block was taken, None if it was not
abbrev pub with_new : Option (ℕ × Blocks) → Option Blocks
with_new None = None
with_new (Some p) = Some p.1

-- the pool with one more new block of u units; None if there is no pool or the block cannot be taken
abbrev pub and_taken : Option Blocks → ℕ → Option Blocks
and_taken None u = None
and_taken (Some s) u = with_new (taken s u)

-- the pool with n new blocks of u units, taken one after the other; None if one of them cannot be taken
abbrev pub taken_in_turn : Blocks → ℕ → ℕ → Option Blocks
taken_in_turn s u zero = Some s
taken_in_turn s u (suc n) = and_taken (taken_in_turn s u n) u

-- in a pool whose blocks of no unit have the base 0, n blocks of u units, u at least 1, can be taken one after the
-- other exactly where at least n numbers have no block and the gaps, each of which holds its units divided by u,
-- rounded down, hold at least n
abbrev pub BlocksCome : Type 0
BlocksCome = (s : Blocks) (u n : ℕ) → AreBased s.places → 0 < u →
    IsSome (taken_in_turn s u n) ↔ ((n ≤ free_numbers s) × (n ≤ count_fitting u (gaps s.places s.units)))
