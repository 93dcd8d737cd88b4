-- The gaps of a pool, as private contracts and proofs speak of them.
use Rattle.std.specs.Prelude.{ℕ, ◌+◌, ◌<◌, ◌≤◌, true, false, List, [], ◌∷◌, Option, ◌≡◌}
use Rattle.dm_pool.specs.declared.extent.Extent.{Extent}
use Rattle.dm_pool.specs.Gaps.{is_clear, Gap}

-- a block of the list covers the unit k
abbrev pub IsCovered : List (Option Extent) → ℕ → Type 0
IsCovered bs k = is_clear bs k 1 ≡ false

-- gs are the gaps of a pool of n units from the unit k on, rising: none of them empty, with covered units between and
-- after them
abbrev pub AreGaps : List (Option Extent) → ℕ → ℕ → List Gap → Type 0
AreGaps bs n k [] = (j : ℕ) → k ≤ j → j < n → IsCovered bs j
AreGaps bs n k (g ∷ gs) = (k ≤ g.low) × ((j : ℕ) → k ≤ j → j < g.low → IsCovered bs j) × (0 < g.size) ×
    (is_clear bs g.low g.size ≡ true) × (g.low + g.size ≤ n) × (g.low + g.size < n → IsCovered bs (g.low + g.size)) ×
    AreGaps bs n (g.low + g.size) gs
