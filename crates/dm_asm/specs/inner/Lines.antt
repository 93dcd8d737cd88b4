-- The end of a line, as the code drops it. For private contracts and proofs alone.
use Rattle.std.specs.Prelude.{ℕ, ◌==◌, List, [], ◌∷◌, ◌&&◌, if◌then◌else◌}

-- the bytes without one 0Dh at their end
abbrev pub trim : List ℕ → List ℕ
trim [] = []
trim (b ∷ []) = if b == 13 then [] else b ∷ []
trim (b ∷ c ∷ bs) = b ∷ trim (c ∷ bs)
