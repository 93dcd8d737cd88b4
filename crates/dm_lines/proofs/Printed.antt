-- Pieces of text are read as their tokens.
use Rattle.std.proofs.Common.{◌≡◌, ℕ, ◌<◌, ◌+◌, ◌-◌, ◌*◌, ◌/◌, ◌%◌, Bool, true, false, ◌&&◌, ◌||◌, List, [], ◌∷◌, ◌++◌, map, Option, Some, None, inl, inr, leb, eqb, refl, sym, ap, subst, ◌∙◌, append_assoc, append-nil, arith}
use Rattle.std.specs.Prelude.{◌==◌, if◌then◌else◌, nat_le}
use Rattle.std.specs.List.{list_all}
use Rattle.std.proofs.lemmas.Bool.{eqb-true}
use Rattle.std.proofs.lemmas.Bool.Decides.{nat_tests}
use borrow.Author.Count.{below_none, below_more}
use Rattle.dm_decode.specs.Pieces.{Piece, name, byte, word, sign, digit, byte_in_text, word_in_text, text_bytes, is_in_names, is_mark, parted}
use Rattle.dm_lines.specs.declared.token.Token.{Token}
use Rattle.dm_lines.specs.declared.token.Token.TheVariants as t
use Rattle.dm_lines.specs.Tokens.{uppercase, is_word_byte, digit_of, magnitude_of, word_token, closed, joined_to, then_list, sign_tokens, lexed, tokens_of}
use Rattle.dm_lines.specs.Laws.{all_tokens, AllFit, IsComment, PiecesAreRead}

both_true : (a b : Bool) → (a && b) ≡ true → (a ≡ true) × (b ≡ true)
both_true true true e = (refl, refl)
both_true true false e = absurd cc
both_true false b e = absurd cc

-- ---- bytes of names and signs

is_begun : List ℕ → Bool
is_begun [] = false
is_begun (b ∷ w) = true

all_words : List ℕ → Bool
all_words [] = true
all_words (b ∷ bs) = is_word_byte b && all_words bs

-- a run of letters and digits goes on with the word, in upper case
run_read : (v u rest : List ℕ) → all_words u ≡ true → lexed false v (u ++ rest) ≡ lexed false (v
    ++ map uppercase u) rest
unfolding all_words
run_read v [] rest h = ap (λ (z : List ℕ). lexed false z rest) (sym (append-nil v))
run_read v (b ∷ u) rest h =
    let x = both_true (is_word_byte b) (all_words u) h in
    rw x.0 (run_read (v ++ uppercase b ∷ []) u rest x.1 ∙ ap (λ (z : List ℕ). lexed false z rest)
    (append_assoc v (uppercase b ∷ []) (map uppercase u)))

name_byte : (digits letters small line : Bool) → (digits || letters) ≡ true → (letters || small || digits ||
    line) ≡ true
name_byte true true small line e = refl
name_byte true false true line e = refl
name_byte true false false line e = refl
name_byte false true small line e = refl
name_byte false false small line e = absurd cc

below_small : (b : ℕ) → is_in_names b ≡ true → leb 97 b ≡ false
below_small b h = grind (arith, nat_tests)

not_small : (b : ℕ) (x : Bool) → leb 97 b ≡ false → (if leb 97 b && x then b - 32 else b) ≡ b
not_small b x h = rw h refl

name_words : (w : List ℕ) → list_all is_in_names w ≡ true → (all_words w ≡ true) × (map uppercase w ≡ w)
unfolding all_words
name_words [] h = (refl, refl)
name_words (b ∷ w) h =
    let x = both_true (is_in_names b) (list_all is_in_names w) h in
    let r = name_words w x.1 in (
      rw (name_byte _ _ (nat_le 97 b && nat_le b 122) (b == 95) x.0, r.0) refl,
      let e : uppercase b ≡ b = not_small b (nat_le b 122) (below_small b x.0) in cc,
    )

record IsSign (b : ℕ) : Type 0 where
  no_word : is_word_byte b ≡ false
  no_end : eqb b 59 ≡ false
  no_quote : eqb b 39 ≡ false

sign_of : (b n : ℕ) → IsSign n → eqb b n ≡ true → IsSign b
sign_of b n s e = subst IsSign (sym (eqb-true b n e)) s

either : {P : Type 0} (x y : Bool) → (x ≡ true → P) → (y ≡ true → P) → (x || y) ≡ true → P
either true y f g e = f refl
either false y f g e = g e

is_sign : (b : ℕ) → is_mark b ≡ true → IsSign b
is_sign b = either _ (b == 93) (either _ (b == 91) (either _ (b == 58) (either _ (b == 44) (either (b == 32) (b == 43)
    (sign_of b 32 (record { no_word = refl; no_end = refl; no_quote = refl }))
    (sign_of b 43 (record { no_word = refl; no_end = refl; no_quote = refl })))
    (sign_of b 44 (record { no_word = refl; no_end = refl; no_quote = refl })))
    (sign_of b 58 (record { no_word = refl; no_end = refl; no_quote = refl })))
    (sign_of b 91 (record { no_word = refl; no_end = refl; no_quote = refl })))
    (sign_of b 93 (record { no_word = refl; no_end = refl; no_quote = refl }))

sign_read : (v : List ℕ) (b : ℕ) (bs : List ℕ) → IsSign b → lexed false v (b ∷ bs)
    ≡ then_list (closed v) (then_list (sign_tokens b) (lexed false [] bs))
sign_read v b bs s = rw (s.no_word, s.no_end, s.no_quote) refl

-- ---- numbers

from : (P : ℕ → Type 0) → P 0 → P 1 → P 2 → P 3 → P 4 → P 5 → P 6 → P 7 → P 8 → P 9 → P 10 → P 11 → P 12 → P 13 → P 14 →
    P 15 → (d : ℕ) → d < 16 → P d
from P a0 a1 a2 a3 a4 a5 a6 a7 a8 a9 a10 a11 a12 a13 a14 a15 =
    below_more P 15 (below_more P 14 (below_more P 13 (below_more P 12 (below_more P 11
    (below_more P 10 (below_more P 9 (below_more P 8 (below_more P 7 (below_more P 6
    (below_more P 5 (below_more P 4 (below_more P 3 (below_more P 2 (below_more P 1
    (below_more P 0 (below_none P) a0) a1) a2) a3) a4) a5) a6) a7) a8) a9) a10) a11) a12) a13) a14) a15

-- a digit is a byte of a word, keeps its case, and stands for itself
record IsDigit (d : ℕ) : Type 0 where
  word : is_word_byte (digit d) ≡ true
  uppercase : uppercase (digit d) ≡ digit d
  spells : digit_of (digit d) ≡ Some d

is_digit : (d : ℕ) → d < 16 → IsDigit d
is_digit = from IsDigit (record { word = refl; uppercase = refl; spells = refl }) (record {
  word = refl;
  uppercase = refl;
  spells = refl;
}) (record { word = refl; uppercase = refl; spells = refl }) (record {
  word = refl;
  uppercase = refl;
  spells = refl;
}) (record { word = refl; uppercase = refl; spells = refl }) (record {
  word = refl;
  uppercase = refl;
  spells = refl;
}) (record { word = refl; uppercase = refl; spells = refl }) (record {
  word = refl;
  uppercase = refl;
  spells = refl;
}) (record { word = refl; uppercase = refl; spells = refl }) (record {
  word = refl;
  uppercase = refl;
  spells = refl;
}) (record { word = refl; uppercase = refl; spells = refl }) (record {
  word = refl;
  uppercase = refl;
  spells = refl;
}) (record { word = refl; uppercase = refl; spells = refl }) (record {
  word = refl;
  uppercase = refl;
  spells = refl;
}) (record { word = refl; uppercase = refl; spells = refl }) (record {
  word = refl;
  uppercase = refl;
  spells = refl;
})

not_le : (a b : ℕ) → b < a → leb a b ≡ false
not_le a b h = grind (arith, nat_tests)

step : (n d : ℕ) (bs : List ℕ) → d < 16 → n * 16 + d < 65536 → magnitude_of 16 n (digit d ∷ bs)
    ≡ magnitude_of 16 (n * 16 + d) bs
step n d bs h k = rw ((is_digit d h).spells, not_le 16 d h, not_le 65536 (n * 16 + d) k) refl

-- 0 and two digits, 0 and four digits
two : (n : ℕ) → n < 256 → magnitude_of 16 0 (48 ∷ digit (n / 16) ∷ digit (n % 16) ∷ []) ≡ Some n
two n h =
    step 0 (n / 16) (digit (n % 16) ∷ []) (omega arith) (omega arith)
    ∙ step (0 * 16 + n / 16) (n % 16) [] (omega arith) (omega arith)
    ∙ ap Some (omega arith)

spelled : (a b c d n : ℕ) → a < 16 → b < 16 → c < 16 → d < 16 → n ≡ ((a * 16 + b) * 16 + c) * 16 + d →
    magnitude_of 16 0 (48 ∷ digit a ∷ digit b ∷ digit c ∷ digit d ∷ []) ≡ Some n
spelled a b c d n ha hb hc hd e =
    step 0 a (digit b ∷ digit c ∷ digit d ∷ []) ha (omega arith)
    ∙ step (0 * 16 + a) b (digit c ∷ digit d ∷ []) hb (omega arith)
    ∙ step ((0 * 16 + a) * 16 + b) c (digit d ∷ []) hc (omega arith)
    ∙ step (((0 * 16 + a) * 16 + b) * 16 + c) d [] hd (omega arith)
    ∙ ap Some (omega arith)

-- what a run of letters and digits is, once it has ended
record IsNumber (u : List ℕ) (n : ℕ) : Type 0 where
  words : all_words u ≡ true
  token : closed (map uppercase u) ≡ Some (t.Number n ∷ [])
  begun : is_begun (map uppercase u) ≡ true

byte_number : (n : ℕ) → n < 256 → IsNumber (byte_in_text n) n
unfolding byte_in_text all_words is_begun word_token
byte_number n h =
    let a = is_digit (n / 16) (omega arith) in
    let b = is_digit (n % 16) (omega arith) in
    record { words = rw (a.word, b.word) refl; token = rw (a.uppercase, b.uppercase, two n h) refl; begun = refl }

word_number : (n : ℕ) → n < 65536 → IsNumber (word_in_text n) n
unfolding word_in_text all_words is_begun word_token
word_number n h =
    let a = is_digit (n / 4096) (omega arith) in
    let b = is_digit (n / 256 % 16) (omega arith) in
    let c = is_digit (n / 16 % 16) (omega arith) in
    let d = is_digit (n % 16) (omega arith) in
    record {
      words = rw (a.word, b.word, c.word, d.word) refl;
      token = rw (
        a.uppercase,
        b.uppercase,
        c.uppercase,
        d.uppercase,
        spelled (n / 4096) (n / 256 % 16) (n / 16 % 16) (n % 16) n (omega arith) (omega arith) (omega arith) (omega
            arith) (omega arith),
      ) refl;
      begun = refl;
    }

-- ---- all pieces

none_before : (r : Option (List Token)) → joined_to [] r ≡ r
none_before None = refl
none_before (Some ts) = refl

nothing_behind : (r : Option (List Token)) → then_list r (Some []) ≡ r
nothing_behind None = refl
nothing_behind (Some ts) = ap Some (append-nil ts)

comment_ends : (v comment : List ℕ) → IsComment comment → lexed false v comment ≡ closed v
comment_ends v [] h = refl
comment_ends v (b ∷ bs) (inl e) = rw e refl
comment_ends v (b ∷ bs) (inr e) = rw (e.0, comment_ends [] bs e.1) (nothing_behind (closed v))

module _ (comment : List ℕ) (is_comment : IsComment comment) where
  Reads : List ℕ → List Piece → Type 0
  Reads v ps = lexed false v (text_bytes ps ++ comment) ≡ then_list (closed v) (all_tokens ps)

  number_read : (u : List ℕ) (n : ℕ) (ps : List Piece) → IsNumber u n → Reads (map uppercase u) ps →
      lexed false [] ((u ++ text_bytes ps) ++ comment) ≡ then_list (closed []) (joined_to (t.Number n
      ∷ []) (all_tokens ps))
  unfolding Reads
  number_read u n ps i r =
      ap (lexed false []) (append_assoc u (text_bytes ps) comment) ∙ run_read [] u (text_bytes ps ++ comment) i.words
      ∙ r ∙ ap (λ (z : Option (List Token)). then_list z (all_tokens ps)) i.token
      ∙ sym (none_before (joined_to (t.Number n ∷ []) (all_tokens ps)))

  reads : (v : List ℕ) (ps : List Piece) → parted (is_begun v) ps ≡ true → AllFit ps → Reads v ps
  unfolding Reads is_begun
  reads v [] h f = comment_ends v comment is_comment ∙ sym (nothing_behind (closed v))
  reads (x ∷ v) (name w ∷ ps) h f = absurd cc
  reads (x ∷ v) (byte n ∷ ps) h f = absurd cc
  reads (x ∷ v) (word n ∷ ps) h f = absurd cc
  reads [] (name [] ∷ ps) h f = absurd cc
  reads [] (name (c ∷ u) ∷ ps) h f =
      let x = both_true (list_all is_in_names (c ∷ u)) (parted true ps) h in
      let n = name_words (c ∷ u) x.0 in
      ap (lexed false []) (append_assoc (c ∷ u) (text_bytes ps) comment) ∙ run_read [] (c ∷ u) (text_bytes ps
      ++ comment) n.0 ∙ ap (λ (z : List ℕ). lexed false z (text_bytes ps ++ comment)) n.1 ∙ reads (c ∷ u) ps x.1 f.1
      ∙ sym (none_before (then_list (closed (c ∷ u)) (all_tokens ps)))
  reads [] (byte n ∷ ps) h f =
      let i = byte_number n f.0 in
      number_read (byte_in_text n) n ps i (reads (map uppercase (byte_in_text n)) ps (subst (λ (z : Bool). parted z ps
      ≡ true) (sym i.begun) h) f.1)
  reads [] (word n ∷ ps) h f =
      let i = word_number n f.0 in
      number_read (word_in_text n) n ps i (reads (map uppercase (word_in_text n)) ps (subst (λ (z : Bool). parted z ps
      ≡ true) (sym i.begun) h) f.1)
  reads [] (sign b ∷ ps) h f =
      let x = both_true (is_mark b) (parted false ps) h in
      sign_read [] b (text_bytes ps ++ comment) (is_sign b x.0)
      ∙ ap (λ (z : Option (List Token)). then_list (Some []) (then_list (sign_tokens b) z)) (reads [] ps x.1 f.1
      ∙ none_before (all_tokens ps))
  reads (c ∷ v) (sign b ∷ ps) h f =
      let x = both_true (is_mark b) (parted false ps) h in
      sign_read (c ∷ v) b (text_bytes ps ++ comment) (is_sign b x.0)
      ∙ ap (λ (z : Option (List Token)). then_list (closed (c ∷ v)) (then_list (sign_tokens b) z))
      (reads [] ps x.1 f.1 ∙ none_before (all_tokens ps))

pub pieces_are_read : PiecesAreRead
unfolding tokens_of Reads is_begun
pieces_are_read ps comment h f c = reads comment c [] ps h f ∙ none_before (all_tokens ps)
