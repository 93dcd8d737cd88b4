-- The law of the records of the arena: one memory has one list of them, and one place, if any, where it breaks.
use Rattle.std.specs.Prelude.{◌≡◌, ℕ, Bool, List, Option}
use Rattle.dm_space.specs.Memory.{Memory}
use Rattle.dm_views.specs.declared.inventory.arena.ArenaBlock.{ArenaBlock}
use Rattle.dm_views.specs.inventory.Arena.{IsListedArena}

-- two listings of the arena are the same
abbrev pub ArenaHasOneList : Type 0
ArenaHasOneList = (upper : Bool) (m : Memory) (a b : List ArenaBlock) (s t : Option ℕ) → IsListedArena upper m a s →
    IsListedArena upper m b t → (a ≡ b) × (s ≡ t)
