-- DB and some bytes are read as these bytes.
use Rattle.std.proofs.Common.{◌≡◌, ℕ, ◌<◌, ◌≤◌, ◌^◌, true, false, List, [], ◌∷◌, ◌++◌, length, map, Option, Some, refl, sym, ap, ◌∙◌, arith}
use Rattle.std.specs.Prelude.{codes, flat_map, nat_lt}
use Rattle.std.specs.List.{AllByRecursion}
use Rattle.std.proofs.lemmas.Bool.Decides.{nat_tests}
use Rattle.dm_ins.specs.Walks.{◌>>=◌}
use Rattle.dm_decode.specs.Names.{name_of}
use Rattle.dm_decode.specs.Pieces.{Piece, name, byte, space_sign, comma, byte_in_text, text_bytes, parted}
use Rattle.dm_lines.specs.declared.token.Token.{Token}
use Rattle.dm_lines.specs.declared.token.Token.TheVariants as t
use Rattle.dm_lines.specs.declared.term.Amount.TheVariants.{Plus}
use Rattle.dm_lines.specs.Words.{reserved}
use Rattle.dm_lines.specs.Tokens.{closed, word_token, tokens_of, joined_to}
use Rattle.dm_lines.specs.Operands.{parts}
use Rattle.dm_lines.specs.Statements as line
use Rattle.dm_lines.specs.Statements.{statement_of, line_statement}
use Rattle.dm_lines.specs.Laws.{all_tokens, AllFit, data_text, data_statement, DataIsRead}
use Rattle.dm_lines.proofs.Printed.{pieces_are_read}

-- ---- pieces and tokens

more_pieces : List ℕ → List Piece
more_pieces [] = []
more_pieces (c ∷ cs) = comma ∷ byte c ∷ more_pieces cs

more_tokens : List ℕ → List Token
more_tokens [] = []
more_tokens (c ∷ cs) = t.Comma ∷ t.Number c ∷ more_tokens cs

more_bytes : (cs : List ℕ) → text_bytes (more_pieces cs) ≡ flat_map (λ c. codes "," ++ byte_in_text c) cs
unfolding more_pieces
more_bytes [] = refl
more_bytes (c ∷ cs) = ap (λ (z : List ℕ). 44 ∷ (byte_in_text c ++ z)) (more_bytes cs)

more_parted : (cs : List ℕ) → parted true (more_pieces cs) ≡ true
unfolding more_pieces
more_parted [] = refl
more_parted (c ∷ cs) = more_parted cs

more_fit : (cs : List ℕ) → AllByRecursion (λ c. c < 2 ^ 8) cs → AllFit (more_pieces cs)
unfolding more_pieces
more_fit [] h = tt
more_fit (c ∷ cs) h = (tt, (h.0, more_fit cs h.1))

more_again : (cs : List ℕ) → all_tokens (more_pieces cs) ≡ Some (more_tokens cs)
unfolding more_pieces more_tokens
more_again [] = refl
more_again (c ∷ cs) = rw (more_again cs) refl

data_word : closed (codes "DB") ≡ Some (t.DataBytes ∷ [])
unfolding word_token reserved name_of
data_word = refl

pieces_of : ℕ → List ℕ → List Piece
pieces_of b bs = name (codes "DB") ∷ space_sign ∷ byte b ∷ more_pieces bs

data_bytes : (b : ℕ) (bs : List ℕ) → data_text b bs ≡ text_bytes (pieces_of b bs)
unfolding pieces_of
data_bytes b bs = ap (λ (z : List ℕ). 68 ∷ 66 ∷ 32 ∷ (byte_in_text b ++ z)) (sym (more_bytes bs))

data_again : (b : ℕ) (bs : List ℕ) → all_tokens (pieces_of b bs) ≡ Some (t.DataBytes ∷ t.Number b ∷ more_tokens bs)
unfolding pieces_of
data_again b bs = rw (data_word, more_again bs) refl

-- ---- the statement

single : ℕ → List Token
single c = t.Number c ∷ []

parts_of : (b : ℕ) (bs : List ℕ) → parts (t.Number b ∷ more_tokens bs) ≡ map single (b ∷ bs)
unfolding more_tokens single
parts_of b [] = refl
parts_of b (c ∷ cs) = ap (λ (z : List (List Token)). (t.Number b ∷ []) ∷ z) (parts_of c cs)

items_of : (bs : List ℕ) → line.byte_items (map single bs) ≡ Some (map Plus bs)
unfolding single
items_of [] = refl
items_of (b ∷ bs) = ap (joined_to (Plus b ∷ [])) (items_of bs)

data_read : (b : ℕ) (bs : List ℕ) → statement_of (t.DataBytes ∷ t.Number b ∷ more_tokens bs)
    ≡ Some (data_statement (b ∷ bs))
data_read b bs = rw (parts_of b bs, items_of (b ∷ bs)) refl

within : (n : ℕ) → n ≤ 255 → nat_lt 255 n ≡ false
within n h = grind (arith, nat_tests)

pub data_is_read : DataIsRead
unfolding line_statement pieces_of
data_is_read b bs comment h c l =
    rw (within (length (data_text b bs ++ comment)) l)
    (ap (λ (z : List ℕ). tokens_of (z ++ comment) >>= statement_of) (data_bytes b bs)
    ∙ ap (λ (o : Option (List Token)). o >>= statement_of) (pieces_are_read (pieces_of b bs) comment (more_parted bs)
    (tt, (tt, (h.0, more_fit bs h.1))) c ∙ data_again b bs)
    ∙ data_read b bs)
