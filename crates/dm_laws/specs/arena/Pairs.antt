-- What is left of a program's two blocks, the environment's and its own, once the program has ended: nothing.
-- MS-DOS Programmer's Reference, functions 4Bh and 4Ch.
use Rattle.std.specs.Prelude.{Bool, List, Ok, true, ℕ, ◌≡◌, ◌≢◌}
use Rattle.dm_space.specs.Memory.{Memory}
use Rattle.dm_blocks.specs.declared.header.Header.{Header}
use Rattle.dm_blocks.specs.Chain.{IsArena, first_header, is_linked}
use Rattle.dm_arena.specs.declared.fit.Strategy.{Strategy}
use Rattle.dm_arena.specs.Blocks.{IsIn, join}
use Rattle.dm_arena.specs.Owned.{Releases}
use Rattle.dm_arena.specs.Pair.{Placed, Pairs}

-- no block of the list has this owner
abbrev pub OwnsNone : ℕ → List Header → Type 0
OwnsNone owner L = (b : Header) → IsIn b L → b.owner ≢ owner

-- both blocks of a program are allocated, from memory S, which spells the list `old`, to T, which spells `taken`; later
-- memory E spells `taken`, too, and there the program's blocks are freed, which leaves U. Then U spells the list that
-- there was, once free blocks side by side are joined in both. No block had the new program's segment as its owner
-- before; and, where upper memory belongs to the arena, the list does not come to have a header at the link block's
-- segment by this, as in `AllocateThenFreeJoins`
abbrev pub PairThenReleaseJoins : Type 0
PairThenReleaseJoins =
    (upper : Bool) (S T E U : Memory) (strategy : Strategy) (environment least most : ℕ) (placed : Placed)
    (old taken new : List Header)
    → Pairs upper S strategy environment least most (Ok placed) T → IsArena S first_header old →
    IsArena T first_header taken
    → IsArena E first_header taken → Releases upper E placed.program (Ok tt) U → IsArena U first_header new
    → OwnsNone placed.program old → (upper ≡ true → is_linked new ≡ is_linked old) → join upper new ≡ join upper old
