-- Where brackets and commas stand among tokens.
use Rattle.std.proofs.Common.{◌≡◌, ℕ, zero, suc, ◌<◌, ◌+◌, ◌-◌, Bool, true, false, List, [], ◌∷◌, ◌++◌, Some, None, take, drop, refl, ap, sym, ◌∙◌, get_or, length, arith, add-one}
use Rattle.std.specs.Prelude.{if◌then◌else◌}
use Rattle.std.proofs.Math.Seq.{drop-cons, take-suc, take-length, drop-length}
use Rattle.std.proofs.lemmas.List.{take_rest}
use Rattle.dm_lines.specs.declared.token.Token.{Token}
use Rattle.dm_lines.specs.Operands.{onto, is_close, inside, begin, is_comma, parts, term_pair, terms_of}

-- ---- the bracket at the end

onto_choice : (b : Bool) (t : Token) (ts : List Token) → onto t (if b then Some ts else None) ≡ (if b then Some (t ∷ ts)
    else None)
onto_choice true t ts = refl
onto_choice false t ts = refl

pub inside_end : (ts : List Token) (d : Token) (n : ℕ) → length ts ≡ suc n → inside ts ≡ (if is_close (get_or ts n d)
    then Some (take n ts) else None)
inside_end [] d n e = absurd (omega arith)
inside_end (t ∷ []) d n e = let z : n ≡ 0 = omega arith in rw z refl
inside_end (t ∷ u ∷ ts) d zero e = absurd (omega arith)
inside_end (t ∷ u ∷ ts) d (suc n) e =
    let k : length (u ∷ ts) ≡ suc n = omega arith in
    ap (onto t) (inside_end (u ∷ ts) d n k) ∙ onto_choice (is_close (get_or (u ∷ ts) n d)) t (take n (u ∷ ts))

pub inside_closed : (ts : List Token) (d : Token) (r : Bool) → 0 < length ts →
    r ≡ is_close (get_or ts (length ts - 1) d) → r ≡ true → Some (take (length ts - 1) ts) ≡ inside ts
inside_closed ts d r h e f =
    let n : length ts ≡ suc (length ts - 1) = omega arith in
    sym (inside_end ts d (length ts - 1) n ∙ ap (λ (b : Bool). if b then Some (take (length ts - 1) ts) else
    None) (sym e ∙ f))

pub inside_open : (ts : List Token) (d : Token) (r : Bool) → 0 < length ts →
    r ≡ is_close (get_or ts (length ts - 1) d) → r ≡ false → None ≡ inside ts
inside_open ts d r h e f =
    let n : length ts ≡ suc (length ts - 1) = omega arith in
    sym (inside_end ts d (length ts - 1) n ∙ ap (λ (b : Bool). if b then Some (take (length ts - 1) ts) else
    None) (sym e ∙ f))

-- ---- the first comma

-- a front that has no comma
abbrev pub before : List Token → List (List Token) → List (List Token)
before [] ps = ps
before (t ∷ ts) ps = begin t (before ts ps)

before_comma : (ts : List Token) (ps : List (List Token)) → before ts ([] ∷ ps) ≡ ts ∷ ps
before_comma [] ps = refl
before_comma (t ∷ ts) ps = rw (before_comma ts ps) refl

before_more : (ts : List Token) (t : Token) (ps : List (List Token)) → before (ts ++ t ∷ []) ps ≡ before ts (begin t ps)
before_more [] t ps = refl
before_more (u ∷ ts) t ps = ap (begin u) (before_more ts t ps)

stop : (ts : List Token) (t : Token) → is_comma t ≡ true → parts (t ∷ ts) ≡ [] ∷ parts ts
stop ts t e = rw e refl

more : (ts : List Token) (t : Token) → is_comma t ≡ false → parts (t ∷ ts) ≡ begin t (parts ts)
more ts t e = rw e refl

rest_behind : (ts : List Token) (i : ℕ) → take (length ts - (i + 1)) (drop (i + 1) ts) ≡ drop (suc i) ts
rest_behind ts i = rw add-one (take_rest ts (suc i))

pub comma_found : (ts : List Token) (i : ℕ) (d : Token) → i < length ts → is_comma (get_or ts i d) ≡ true →
    parts ts ≡ before (take i ts) (parts (drop i ts)) → parts ts ≡ take i ts
    ∷ parts (take (length ts - (i + 1)) (drop (i + 1) ts))
comma_found ts i d h e s =
    s ∙ ap (λ (x : List Token). before (take i ts) (parts x)) (drop-cons ts i d h)
    ∙ ap (before (take i ts)) (stop (drop (suc i) ts) (get_or ts i d) e)
    ∙ before_comma (take i ts) (parts (drop (suc i) ts))
    ∙ ap (λ (x : List Token). take i ts ∷ parts x) (sym (rest_behind ts i))

pub comma_later : (ts : List Token) (i : ℕ) (d : Token) → i < length ts → is_comma (get_or ts i d) ≡ false →
    parts ts ≡ before (take i ts) (parts (drop i ts)) → parts ts ≡ before (take (i + 1) ts) (parts (drop (i + 1) ts))
comma_later ts i d h e s =
    s ∙ ap (λ (x : List Token). before (take i ts) (parts x)) (drop-cons ts i d h)
    ∙ ap (before (take i ts)) (more (drop (suc i) ts) (get_or ts i d) e)
    ∙ sym (before_more (take i ts) (get_or ts i d) (parts (drop (suc i) ts)))
    ∙ rw (add-one, take-suc ts i d h) refl

whole : (ts : List Token) (i : ℕ) → i ≡ length ts → before (take i ts) (parts (drop i ts)) ≡ before ts ([] ∷ [])
whole ts i h = rw (h, take-length ts, drop-length ts) refl

pub no_comma : (ts : List Token) (i : ℕ) → i ≡ length ts → parts ts ≡ before (take i ts) (parts (drop i ts)) →
    parts ts ≡ ts ∷ []
no_comma ts i h s = s ∙ whole ts i h ∙ before_comma ts []

-- there is always a part
begun_pair : (t : Token) (ps : List (List Token)) (p q : List Token) → term_pair (p ∷ q ∷ begin t ps) ≡ None
begun_pair t [] p q = refl
begun_pair t (r ∷ ps) p q = refl

third : (p q m : List Token) → term_pair (p ∷ q ∷ parts m) ≡ None
third p q [] = refl
third p q (t ∷ ts) = by (is_comma t)
  where
    by : (b : Bool) → term_pair (p ∷ q ∷ (if b then [] ∷ parts ts else begin t (parts ts))) ≡ None
    by true = refl
    by false = begun_pair t (parts ts) p q

pub too_many : (ts n m p q : List Token) → 0 < length ts → parts ts ≡ p ∷ parts n → parts n ≡ q ∷ parts m →
    None ≡ terms_of ts
too_many [] n m p q h e f = absurd (omega arith)
too_many (t ∷ ts) n m p q h e f = sym (ap term_pair e ∙ ap (λ (ps : List (List Token)). term_pair (p ∷ ps)) f
    ∙ third p q m)
