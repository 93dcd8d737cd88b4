-- The two ends of a list, lent at once (ends_mut).
use Rattle.std.specs.Prelude.{ℕ, ◌-◌, List, ◌++◌, length, take, drop}
use Rattle.std.specs.Borrow.{Fml, RattleType, MutBor, Array, LendsBoth}
use Rattle.std.specs.List.{refill}

module _ {X : Type 0} where
  -- xs with ws in place of what stands before the index len, and vs in place of what stands from the index other on
  abbrev pub with_ends : List X → ℕ → ℕ → List X → List X → List X
  with_ends xs len other ws vs = ws ++ (drop len (take other xs) ++ vs)

-- when the two loans r end, of the first len elements of s and of those from the index other on, s holds in these
-- places what was written through them; the elements between them are as they were
abbrev pub lends_ends : (R : RattleType) → MutBor (List R.Denot) → ℕ → ℕ → MutBor (List R.Denot) ×
    MutBor (List R.Denot) → Fml
lends_ends R s len other r = LendsBoth (Array R 0) (Array R 0) (Array R 0) s r (λ ws vs. with_ends s.now len other
    (refill len (take len s.now) ws) (refill (length s.now - other) (drop other s.now) vs))
