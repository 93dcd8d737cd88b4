-- Records in the order of the numbers that they stand for.
use Rattle.std.specs.Prelude.{ℕ, zero, suc, List, [], ◌∷◌, ◌++◌, Option, Some, None}

-- the record that there is, if there is one
abbrev pub record_list : {A : Type 0} → Option A → List A
record_list None = []
record_list (Some one) = one ∷ []

-- the records that f gives for the numbers 0 to n - 1 (of handles, windows or blocks), one after the other; none for a
-- number that has none
unfoldable pub records_in_turn : {A : Type 0} → (ℕ → Option A) → ℕ → List A
records_in_turn f zero = []
records_in_turn f (suc n) = records_in_turn f n ++ record_list (f n)
