-- The order in which spellings are chosen: the shortest, and of those the least byte by byte.
use Rattle.std.specs.Prelude.{ℕ, Bool, true, false, List, length, nat_lt, if◌then◌else◌}
use Rattle.std.specs.Ordering.{is_lt, nat_cmp}
use Rattle.std.specs.Cmp.Lexicographic.{slice_cmp}

-- whether a is shorter than b, or as long and less at the first byte from the left that differs
abbrev pub before : List ℕ → List ℕ → Bool
before a b =
    if nat_lt (length a) (length b) then true
    else if nat_lt (length b) (length a) then false
    else is_lt (slice_cmp nat_cmp a b)
