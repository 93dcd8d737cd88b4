-- How far a search of a list, or the cursor over the first list, has come. For private contracts and proofs alone.
use Rattle.std.specs.Prelude.{List, None, Option, Some, [], ℕ, ◌++◌, ◌+◌, ◌-◌, ◌<◌, ◌≡◌, ◌≤◌, ◌∷◌, ◌≢◌}
use Rattle.dm_space.specs.Memory.{Memory}
use Rattle.dm_blocks.specs.declared.header.Header.{Header}
use Rattle.dm_blocks.specs.Chain.{HasHeader, NoBlockAt}
use Rattle.dm_blocks.specs.Reading.{IsSpelledFrom, NoEndAt}

-- a search of L for the block that begins at the segment stands at h: it has passed the headers P, none of which is
-- that block's, and K are left
pub record IsFinding (S : Memory) (L : List Header) (segment h : ℕ) (P K : List Header) : Type 0 where
  pub spelled : IsSpelledFrom S h K
  pub is : L ≡ P ++ K
  pub none : NoBlockAt P segment

-- a bound on the steps that are left to a walk: 10000h less the segment where it stands, 0 at its end
abbrev pub steps_left : Option ℕ → ℕ
steps_left None = 0
steps_left (Some t) = 0x10000 - t

-- K are the headers from a cursor on; none are left if the cursor is None
abbrev pub AreLeft : Memory → Option ℕ → List Header → Type 0
AreLeft S None K = K ≡ []
AreLeft S (Some h) K = IsSpelledFrom S h K

-- a cursor over the list F has passed only headers below segment t; where it stands, memory spells the others
pub record IsCursor (S : Memory) (F : List Header) (cursor : Option ℕ) (t : ℕ) : Type 0 where
  pub passed : List Header
  pub rest : List Header
  pub is : F ≡ passed ++ rest
  pub below : (g : ℕ) → HasHeader passed g → g < t
  pub left : AreLeft S cursor rest

-- the cursor has passed all headers below segment t: it stands at t or above, or at the end
abbrev pub HasCaughtUp : Option ℕ → ℕ → Type 0
HasCaughtUp None t = Unit {0}
HasCaughtUp (Some h) t = t ≤ h

-- a search of L for the block that ends at the segment stands at h: it has passed the headers P, none of which is
-- that block's, and K are left
pub record IsSeeking (S : Memory) (L : List Header) (segment h : ℕ) (P K : List Header) : Type 0 where
  pub spelled : IsSpelledFrom S h K
  pub is : L ≡ P ++ K
  pub none : NoEndAt P segment
