-- The sizes of the tables. For private contracts and proofs alone.
use Rattle.std.specs.Prelude.{ℕ, ◌+◌, ◌<◌, ◌≤◌, ◌≡◌, List, [], ◌∷◌, length}
use Rattle.dm_xms.specs.declared.tables.Upper.{Upper}
use Rattle.dm_xms.specs.Tables.{Tables}

-- the upper memory blocks lie one after the other between segment `from` and E000h, and none is empty
abbrev pub Rise : ℕ → List Upper → Type 0
Rise from [] = from ≤ 0xE000
Rise from (u ∷ us) = (from ≤ u.segment) × (0 < u.paragraphs) × Rise (u.segment + u.paragraphs) us

-- there are 64 handles, the local count of A20 is a word, and the upper memory blocks rise within D000h to DFFFh
pub record IsTables (xms : Tables) : Type 0 where
  pub handles : length xms.handles ≡ 64
  pub local : xms.local ≤ 0xFFFF
  pub uppers : Rise 0xD000 xms.uppers
