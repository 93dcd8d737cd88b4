-- The lines of a text: bytes with 0Ah, or 0Dh and 0Ah, after each line; the last one may end with the text.
use Rattle.std.specs.Prelude.{ℕ, Bool, false, ◌==◌, ◌&&◌, List, [], ◌∷◌, if◌then◌else◌}

-- the lines with a byte in front of the first one
abbrev pub onto : ℕ → List (List ℕ) → List (List ℕ)
onto b [] = (b ∷ []) ∷ []
onto b (l ∷ ls) = (b ∷ l) ∷ ls

-- the bytes begin with a line end, 0Ah
abbrev pub ends_line : List ℕ → Bool
ends_line [] = false
ends_line (b ∷ bs) = b == 10

-- the lines of a text without their ends: a line ends with 0Ah, before which one 0Dh is dropped, or with the text
abbrev pub lines_of : List ℕ → List (List ℕ)
lines_of [] = []
lines_of (b ∷ bs) =
    if b == 10 then [] ∷ lines_of bs
    else if (b == 13) && ends_line bs then lines_of bs
    else onto b (lines_of bs)
