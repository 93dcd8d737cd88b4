-- That no call of the arena depends on bytes that no program can see.
use Rattle.std.specs.Prelude.{ℕ, Bool, Result}
use Rattle.dm_space.specs.Memory.{Memory}
use Rattle.dm_space.specs.Unseen.{IsUnseen}
use Rattle.dm_arena.specs.declared.refusal.ArenaRefusal.{ArenaRefusal}
use Rattle.dm_arena.specs.declared.fit.Strategy.{Strategy}
use Rattle.dm_arena.specs.Allocation.{Allocates}
use Rattle.dm_arena.specs.Owned.{Frees, Resizes, Releases}
use Rattle.dm_arena.specs.Pair.{Placed, Pairs}
use Rattle.dm_arena.specs.Linking.{Links, TellsLinked}

-- each call of the arena, 5802h included, returns the same on memory with this change as without it, and leaves the
-- same memory but for the change
pub record CallsIgnoreUnseen (change : Memory → Memory) : Type 0 where
  pub allocation : (upper : Bool) (S T : Memory) (strategy : Strategy) (n owner : ℕ) (r : Result ℕ ArenaRefusal) →
      Allocates upper S strategy n owner r T → Allocates upper (change S) strategy n owner r (change T)
  pub freeing : (upper : Bool) (S T : Memory) (segment : ℕ) (r : Result (Unit {0}) ArenaRefusal) →
      Frees upper S segment r T → Frees upper (change S) segment r (change T)
  pub resizing : (upper : Bool) (S T : Memory) (segment n : ℕ) (r : Result (Unit {0}) ArenaRefusal) →
      Resizes upper S segment n r T → Resizes upper (change S) segment n r (change T)
  pub releasing : (upper : Bool) (S T : Memory) (owner : ℕ) (r : Result (Unit {0}) ArenaRefusal) →
      Releases upper S owner r T → Releases upper (change S) owner r (change T)
  pub pairing : (upper : Bool) (S T : Memory) (strategy : Strategy) (environment least most : ℕ)
      (r : Result Placed ArenaRefusal) → Pairs upper S strategy environment least most r T →
      Pairs upper (change S) strategy environment least most r (change T)
  pub telling : (S : Memory) (r : Result Bool ArenaRefusal) → TellsLinked S r → TellsLinked (change S) r
  pub linking : (S T : Memory) (on : Bool) (r : Result (Unit {0}) ArenaRefusal) → Links S on r T →
      Links (change S) on r (change T)

-- the calls of the arena neither depend on bytes that no program can see nor change them
abbrev pub IgnoresUnseen : Type 0
IgnoresUnseen = (change : Memory → Memory) → IsUnseen change → CallsIgnoreUnseen change
