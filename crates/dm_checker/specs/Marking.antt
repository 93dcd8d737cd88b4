-- Marks on the memory of which something may be found. No definition of a finding mentions them.
use Rattle.std.specs.Prelude.{◌≡◌, ℕ, true, List, Option}
use Rattle.dm_space.specs.Memory.{Memory}
use Rattle.dm_touches.specs.quiet.Marks.{lies_below}
use Rattle.dm_checker.specs.declared.arena_copy.HeaderCopy.{HeaderCopy}
use Rattle.dm_checker.specs.Unfound.{is_read_unfound, is_write_unfound}

-- nothing is found of reads below level 2 and of writes below level 1, where memory has these windows
pub record IsMarked (windows : List (Option ℕ)) (ws : List HeaderCopy) (ms : List ℕ) : Type 0 where
  pub reads : (a : ℕ) → lies_below ms 2 a ≡ true → is_read_unfound ws a ≡ true
  pub writes : (m : Memory) → m.windows ≡ windows → (a : ℕ) → lies_below ms 1 a ≡ true → is_write_unfound m ws a ≡ true
