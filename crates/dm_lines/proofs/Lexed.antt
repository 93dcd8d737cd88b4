-- One more byte of a line is read.
use Rattle.std.proofs.Common.{◌≡◌, ℕ, ◌<◌, ◌+◌, Bool, true, false, not, List, [], ◌∷◌, ◌++◌, Option, Some, None, drop, length, get_or, refl, sym, ap, ◌∙◌, append_assoc, add-one, eqb}
use Rattle.std.proofs.Math.Seq.{drop-cons}
use Rattle.std.specs.Prelude.{◌==◌}
use Rattle.dm_lines.specs.declared.token.Token.{Token}
use Rattle.dm_lines.specs.Tokens.{is_word_byte, closed, joined_to, then_list, sign_tokens, inside_quotes, lexed}

pub front-front : (xs ys : List Token) (r : Option (List Token)) → joined_to (xs ++ ys) r
    ≡ joined_to xs (joined_to ys r)
front-front xs ys None = refl
front-front xs ys (Some zs) = ap Some (append_assoc xs ys zs)

-- what is left of a line begins with its byte at the place
rest_at : (s : List ℕ) (i : ℕ) → i < length s → drop i s ≡ get_or s i 0 ∷ drop (i + 1) s
rest_at s i h = rw add-one (drop-cons s i 0 h)

pub quoted_byte : (ts : List Token) (w s : List ℕ) (i : ℕ) (q : Bool) (r : Option (List Token)) → i < length s →
    q ≡ true → joined_to ts (lexed q w (drop i s)) ≡ r → joined_to (ts ++ inside_quotes (get_or s i 0)
    ∷ []) (lexed (not (get_or s i 0 == 39)) w (drop (i + 1) s)) ≡ r
quoted_byte ts w s i q r h e k =
    front-front ts (inside_quotes (get_or s i 0) ∷ []) (lexed (not (get_or s i 0 == 39)) w (drop (i + 1) s))
    ∙ ap (λ (z : Bool). joined_to ts (lexed z w (get_or s i 0 ∷ drop (i + 1) s))) (sym e)
    ∙ ap (λ (z : List ℕ). joined_to ts (lexed q w z)) (sym (rest_at s i h))
    ∙ k

-- a word ends, then a sign stands
joins : (ts us vs : List Token) (c m r : Option (List Token)) → Some us ≡ joined_to ts c → Some vs ≡ joined_to us m →
    joined_to ts (then_list c (then_list m r)) ≡ joined_to vs r
joins ts us vs None m r e f = absurd cc
joins ts us vs (Some xs) None r e f = absurd cc
joins ts us vs (Some xs) (Some ys) r e f =
    let a : us ≡ ts ++ xs = cc in
    let b : vs ≡ us ++ ys = cc in
    sym (front-front ts xs (joined_to ys r)) ∙ sym (front-front (ts ++ xs) ys r)
    ∙ ap (λ (z : List Token). joined_to (z ++ ys) r) (sym a) ∙ ap (λ (z : List Token). joined_to z r) (sym b)

signed : (w : List ℕ) (b : ℕ) (bs : List ℕ) → is_word_byte b ≡ false → eqb b 59 ≡ false →
    lexed false w (b ∷ bs) ≡ then_list (closed w) (then_list (sign_tokens b) (lexed (b == 39) [] bs))
signed w b bs h k = rw (h, k) refl

pub sign_byte_read : (ts us vs : List Token) (w v s : List ℕ) (i : ℕ) (q : Bool) (r : Option (List Token)) →
    i < length s → q ≡ false → is_word_byte (get_or s i 0) ≡ false → eqb (get_or s i 0) 59 ≡ false →
    Some us ≡ joined_to ts (closed w) → Some vs ≡ joined_to us (sign_tokens (get_or s i 0)) → v ≡ [] →
    joined_to ts (lexed q w (drop i s)) ≡ r → joined_to vs (lexed (get_or s i 0 == 39) v (drop (i + 1) s)) ≡ r
sign_byte_read ts us vs w v s i q r h e not_word not_end a b none k =
    ap (λ (z : List ℕ). joined_to vs (lexed (get_or s i 0 == 39) z (drop (i + 1) s))) none
    ∙ sym (joins ts us vs (closed w) (sign_tokens (get_or s i 0)) (lexed (get_or s i 0 == 39) [] (drop (i + 1) s)) a b)
    ∙ ap (joined_to ts) (sym (signed w (get_or s i 0) (drop (i + 1) s) not_word not_end))
    ∙ ap (λ (z : Bool). joined_to ts (lexed z w (get_or s i 0 ∷ drop (i + 1) s))) (sym e)
    ∙ ap (λ (z : List ℕ). joined_to ts (lexed q w z)) (sym (rest_at s i h))
    ∙ k
