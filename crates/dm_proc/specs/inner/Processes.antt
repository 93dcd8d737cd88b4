-- A process that is written to memory. For private contracts and proofs alone.
use Rattle.std.specs.Prelude.{◌≡◌, Bool, ℕ, List, ◌≢◌, ◌+◌, ◌<◌, ◌⊎◌, ◌∷◌, ◌++◌}
use Rattle.dm_space.specs.Memory.{Memory}
use Rattle.dm_arena.specs.declared.refusal.ArenaRefusal.TheVariants as arena
use Rattle.dm_blocks.specs.Chain.{first_header, Becomes}
use Rattle.dm_arena.specs.Pair.{Planned, IsPlannedOn, with_pair}
use Rattle.dm_proc.specs.Writes.{apply}
use Rattle.dm_proc.specs.Request.{Passed}
use Rattle.dm_proc.specs.Environment.{environment}
use Rattle.dm_arena.specs.Pair.{placed_of}
use Rattle.dm_proc.specs.Start.{start_writes, prefix}

-- a planned process is written to memory m, which leaves n: first the arena's headers with its blocks, which leaves
-- `middle`, then environment, prefix, image and the zero word on a COM program's stack
pub record IsWritten (upper : Bool) (m : Memory) (pair : Planned) (p : IsPlannedOn upper m pair)
    (environment file : List ℕ) (parent : ℕ) (a : Passed) (n : Memory) : Type 0 where
  pub middle : Memory
  pub becomes : Becomes m first_header (with_pair p.planned.pairing) middle
  pub memory : n ≡ apply (start_writes middle.a20 (placed_of pair) environment (prefix m (placed_of pair) parent a)
      file) middle
