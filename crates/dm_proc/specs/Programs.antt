-- A store of named programs (this machine's own): a list of names and of the bytes of their files.
use Rattle.std.specs.Prelude.{ℕ, ◌<◌, ◌≤◌, Bool, List, Option, Contains, find, is_some, length, option_map}
use Rattle.std.specs.Str.{str_eq_ignore_ascii_case}

-- the bytes of the first program with this name, ASCII case ignored; None if the store has none
abbrev pub program_of : List (List ℕ × List ℕ) → List ℕ → Option (List ℕ)
program_of store name = option_map (λ p. p.1) (find (λ p. str_eq_ignore_ascii_case p.0 name) store)

-- the store has a program with this name, ASCII case ignored
abbrev pub has_program : List (List ℕ × List ℕ) → List ℕ → Bool
has_program store name = is_some (program_of store name)

-- a program's name: 1 to 64 bytes, none of them zero
pub record IsName (name : List ℕ) : Type 0 where
  pub some : 0 < length name
  pub short : length name ≤ 64
  pub no_zero : ¬ Contains name 0
