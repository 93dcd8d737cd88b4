-- Entries one after another.
use Rattle.std.proofs.Common.{◌≡◌, ℕ, ◌+◌, List, ◌++◌, add-one, refl}
use Rattle.dm_ems.specs.Names.{in_turn}

pub in_turn_more : (f : ℕ → List ℕ) (n : ℕ) → in_turn f (n + 1) ≡ in_turn f n ++ f n
in_turn_more f n = rw add-one refl
