-- How the origins of paragraphs change.
use Rattle.std.specs.Prelude.{◌≡◌, ℕ, ◌<◌, ◌≤◌, ◌&&◌, not, nat_lt, Bool, if◌then◌else◌, List, length, slice_index_or, Option, Some, None}
use Rattle.dm_blocks.specs.declared.header.Header.{Header}
use Rattle.dm_findings.specs.declared.finding.Origin.{Origin}
use Rattle.dm_origins.specs.Origins.{covers}

-- whether p is from `first` up to but not including `end`
abbrev pub within : ℕ → ℕ → ℕ → Bool
within first end p = not (nat_lt p first) && nat_lt p end

-- `new` is `old` with the origin o for the paragraphs that pass the test
pub record Frees (is : ℕ → Bool) (o : Origin) (old new : List (Option Origin)) : Type 0 where
  pub count : length new ≡ length old
  pub at : (p : ℕ) → p < length old → slice_index_or new p None ≡ (if is p then Some o else slice_index_or old p None)

-- the block answers for each paragraph from `at` to `end` as it does for `at`
abbrev pub SameFrom : ℕ → ℕ → Header → Type 0
SameFrom at end b = (p : ℕ) → at ≤ p → p ≤ end → covers p b ≡ covers at b
