-- The sizes of the tables. For private contracts and proofs alone.
use Rattle.std.specs.Prelude.{◌-◌, ◌≤◌, ◌≡◌, length, ◌==◌, if◌then◌else◌, ◌∷◌, ◌++◌}
use Rattle.dm_ems.specs.Tables.{Tables}

-- there are 64 handles and at most `total` pages in use, and `total` is at most 512
pub record IsTables (ems : Tables) : Type 0 where
  pub handles : length ems.handles ≡ 64
  pub few : length ems.pages ≤ ems.total
  pub total : ems.total ≤ 512
