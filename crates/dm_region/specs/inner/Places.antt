-- The places of a block, each empty or holding a value.
use Rattle.std.specs.Prelude.{◌≡◌, ℕ, ◌+◌, ◌<◌, ◌≤◌, get_or, List, [], ◌∷◌, ◌++◌, map, length, take, drop, replicate, Option, Some, None}

module _ {X : Type 0} where
  -- the values of the places that are not empty, in their order
  abbrev pub somes : List (Option X) → List X
  somes [] = []
  somes (None ∷ cs) = somes cs
  somes (Some x ∷ cs) = x ∷ somes cs

  -- there is a place at the index i, and it holds a value
  abbrev pub IsFilled : List (Option X) → ℕ → Type 0
  IsFilled cs i = (x : X) × (get_or cs i None ≡ Some x)

  -- there are len places from the index `from` on, and all of them hold values
  abbrev pub IsRun : List (Option X) → ℕ → ℕ → Type 0
  IsRun cs from len = (from + len ≤ length cs) × ((xs : List X) × (take len (drop from cs) ≡ map Some xs))

  -- there are len places from the index `from` on, and all of them are empty
  abbrev pub IsEmptyRun : List (Option X) → ℕ → ℕ → Type 0
  IsEmptyRun cs from len = (from + len ≤ length cs) × ((i : ℕ) → from ≤ i → i < from + len → get_or cs i None ≡ None)

  -- cs with the len places from the index `from` on empty
  abbrev pub emptied : List (Option X) → ℕ → ℕ → List (Option X)
  emptied cs from len = take from cs ++ (replicate len None ++ drop (from + len) cs)

  -- the places before the index `from`, and those from the index `to` on, hold values; the places between are empty
  pub record IsHoled (cs : List (Option X)) (from to : ℕ) : Type 0 where
    pub below : (i : ℕ) → i < from → IsFilled cs i
    pub hole : (i : ℕ) → from ≤ i → i < to → get_or cs i None ≡ None
    pub above : (i : ℕ) → to ≤ i → i < length cs → IsFilled cs i

-- the bytes that places stand for: that of a place that holds one, 0 for an empty place
abbrev pub or_zero : Option ℕ → ℕ
or_zero None = 0
or_zero (Some x) = x
