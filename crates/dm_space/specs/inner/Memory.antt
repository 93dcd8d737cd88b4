-- A space as contracts see it, by its fields.
use Rattle.std.specs.Prelude.{ℕ, ◌+◌, ◌/◌, ◌%◌, Bool, List, Option, slice_set}
use Rattle.dm_pool.specs.Stored.{Stored}
use Rattle.dm_space.specs.Memory.{Held}

-- what a space holds, by its store, the blocks that its windows show, and A20
abbrev pub held : Stored → List (Option ℕ) → Bool → Held
held s windows a20 = record {
  memory = record { low = s.low; blocks = s.blocks; windows = windows; a20 = a20 };
  scratch = s.scratch;
}

-- the bytes with a word written at an index, low byte first
abbrev pub word_put : List ℕ → ℕ → ℕ → List ℕ
word_put xs at value = slice_set (slice_set xs at (value % 256)) (at + 1) (value / 256)
