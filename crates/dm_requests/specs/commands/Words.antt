-- The words of a typed line: what stands between spaces. There may be several spaces, at the ends too.
use Rattle.std.specs.Prelude.{ℕ, ◌==◌, if◌then◌else◌, List, [], ◌∷◌, ◌++◌}

-- the list of the one word that these bytes spell; the empty list if there are no bytes
abbrev pub ended : List ℕ → List (List ℕ)
ended [] = []
ended (b ∷ w) = (b ∷ w) ∷ []

-- the words of the rest of a line, the first of which begins with the bytes w that stand just before the rest
abbrev pub words_behind : List ℕ → List ℕ → List (List ℕ)
words_behind w [] = ended w
words_behind w (b ∷ bs) = if b == 32 then ended w ++ words_behind [] bs else words_behind (w ++ b ∷ []) bs

-- the words of a line
abbrev pub words_of : List ℕ → List (List ℕ)
words_of line = words_behind [] line
