-- The bytes of a line that a buffer keeps, one at a time
use Rattle.std.proofs.Common.{◌≡◌, ℕ, ◌==◌, Bool, not, List, take}
use Rattle.std.specs.List.{filter}

abbrev pub stays : ℕ → Bool
stays byte = not (byte == 0x0A)

-- of the first k bytes
pub record IsKept (most : ℕ) (line : List ℕ) (k : ℕ) (items : List ℕ) : Type 0 where
  pub is : items ≡ take most (filter stays (take k line))
