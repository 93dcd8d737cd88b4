-- Which paragraphs the blocks of a list take.
-- MS-DOS Programmer's Reference, "Arena header": a header takes one paragraph, and its block follows it.
use Rattle.std.specs.Prelude.{Bool, List, [], true, ℕ, ◌+◌, ◌<◌, ◌∷◌, ◌≡◌, ◌≤◌}
use Rattle.dm_blocks.specs.declared.header.Header.{Header}
use Rattle.dm_blocks.specs.Chain.{is_free, next}
use Rattle.dm_arena.specs.Blocks.{IsIn}

-- how many paragraphs the blocks of the list take, each with its header: as the headers lie end to end, the list ends
-- so far above its first header
abbrev pub paragraphs_taken : List Header → ℕ
paragraphs_taken [] = 0
paragraphs_taken (b ∷ L) = 1 + b.size + paragraphs_taken L

-- the paragraph at segment p is one of the block's, or its header
abbrev pub IsPartOf : ℕ → Header → Type 0
IsPartOf p b = (b.segment ≤ p) × (p < next b)

-- the paragraph at segment p is one of a free block of the list, or its header
pub record IsInFree (upper : Bool) (L : List Header) (p : ℕ) : Type 0 where
  pub block : Header
  pub there : IsIn block L
  pub free : is_free upper block ≡ true
  pub part : IsPartOf p block
