-- The bytes of a region, with its hole: places that nothing was written to yet, and which stand for zeros.
use Rattle.std.specs.Prelude.{ℕ, ◌+◌, ◌≤◌, ◌⊎◌, List, length}

-- the bytes of a region; those from the byte `from` on, below the byte `to`, are its hole
pub record Holed : Type 0 where
  pub bytes : List ℕ
  pub from : ℕ
  pub to : ℕ

-- the region has len bytes from the byte `from` on, and none of them is in its hole
abbrev pub IsOutside : Holed → ℕ → ℕ → Type 0
IsOutside r from len = (from + len ≤ length r.bytes) × ((from + len ≤ r.from) ⊎ ((r.to ≤ from) ⊎ (r.to ≤ r.from)))
