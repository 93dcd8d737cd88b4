-- The files that `dm` has written, and those that it does not write over.
use Rattle.std.specs.Prelude.{ℕ, ◌+◌, ◌≡◌, ◌++◌, Bool, List, [], ◌∷◌, Option, Some, IfSome, min, if◌then◌else◌}
use Rattle.dm_console.specs.writers.Out.{most_failures}

-- the file at the path was written with these bytes: path and bytes are appended to the list of written files, from
-- `before` to `after`, where that is known
abbrev pub Saves : Option (List (List ℕ × List ℕ)) → Option (List (List ℕ × List ℕ)) → List ℕ → List ℕ → Type 0
Saves before after path bytes = IfSome before (λ files. after ≡ Some (files ++ (path, bytes) ∷ []))

-- the answer to whether two paths lead to one file: `known` is the right one, where that is known; `before` and `after`
-- are how often two paths were found to lead to one file, up to `most_failures`
pub record IsToldOfPaths (known : Option Bool) (before after : ℕ) (answer : Bool) : Type 0 where
  pub right : IfSome known (λ is. answer ≡ is)
  pub count : after ≡ (if answer then min (before + 1) most_failures else before)
