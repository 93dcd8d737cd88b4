-- The table of reserved words has the spelling and the meaning of each.
use Rattle.std.proofs.Common.{◌≡◌, ℕ, Bool, true, false, List, [], ◌∷◌, Option, Some, refl, ap, ◌∙◌}
use Rattle.std.specs.Prelude.{if◌then◌else◌, map, option_map}
use Rattle.std.specs.Str.{bytes_eq}
use Rattle.dm_decode.specs.Names.{named}
use Rattle.dm_lines.specs.declared.token.Token.{Token}
use Rattle.dm_lines.specs.declared.words.Reserved.{Reserved}
use Rattle.dm_lines.specs.Words.{reserved_words, reserved}
use Rattle.dm_lines.specs.inner.Words.{spelling_of, meaning_of, all_words, reserved_by}

abbrev Pair : Type 0
Pair = List ℕ × Token

abbrev pair_of : Reserved → Pair
pair_of r = (spelling_of r, meaning_of r)

-- the token of a pair
abbrev token_of : Option Pair → Option Token
token_of o = option_map (λ (pair : Pair). pair.1) o

-- what a search of the pairs gives
abbrev in_pairs : List Pair → List ℕ → Option Pair
in_pairs pairs w = named (λ (pair : Pair). pair.0) pairs w

chosen : (r : Reserved) (ws : List Reserved) (w : List ℕ) (b : Bool) → token_of (in_pairs (map pair_of ws) w)
    ≡ option_map meaning_of (named spelling_of ws w) → token_of (if b then Some (pair_of r) else
    in_pairs (map pair_of ws) w) ≡ option_map meaning_of (if b then Some r else named spelling_of ws w)
chosen r ws w true h = refl
chosen r ws w false h = h

-- is what a search of the words gives
named_pairs : (ws : List Reserved) (w : List ℕ) → token_of (in_pairs (map pair_of ws) w)
    ≡ option_map meaning_of (named spelling_of ws w)
named_pairs [] w = refl
named_pairs (r ∷ ws) w = chosen r ws w (bytes_eq (spelling_of r) w) (named_pairs ws w)

pairs_are : reserved_words ≡ map pair_of all_words
pairs_are = refl

pub reserved_is : (w : List ℕ) → reserved w ≡ reserved_by w
unfolding reserved
reserved_is w = ap (λ (pairs : List Pair). token_of (in_pairs pairs w)) pairs_are ∙ named_pairs all_words w
