-- Lists whose elements each give something.
use Rattle.std.proofs.Common.{◌≡◌, ℕ, suc, ◌<◌, ◌+◌, List, [], ◌∷◌, ◌++◌, take, drop, map, length, get_or, Option, Some, None, IsSome, refl, sym, ap, subst, ◌∙◌, add-one, flat_map}
use Rattle.std.specs.List.{AllByRecursion}
use Rattle.std.proofs.Math.Seq.{drop-cons, take-suc, take-length}
use Rattle.std.proofs.lemmas.List.{take-append-drop, append_assoc}
use Rattle.dm_lines.specs.declared.term.Expression.{Expression}
use Rattle.dm_asm.specs.Labels.{Label}
use Rattle.dm_asm.specs.Codes.{value_word, AreWordsOf}
use Rattle.dm_ins.specs.Spelling.{word_bytes}

-- a list about one of its places
at_place : {A : Type 0} (xs : List A) (i : ℕ) (x d : A) → i < length xs → x ≡ get_or xs i d → xs ≡ take i xs ++ x
    ∷ drop (suc i) xs
at_place xs i x d h e = sym (take-append-drop i xs) ∙ ap (λ r. take i xs ++ r) (drop-cons xs i d h
    ∙ ap (λ y. y ∷ drop (suc i) xs) (sym e))

one_more : {A : Type 0} (xs : List A) (i : ℕ) (x d : A) → i < length xs → x ≡ get_or xs i d →
    take (i + 1) xs ≡ take i xs ++ x ∷ []
one_more xs i x d h e = rw add-one (take-suc xs i d h ∙ ap (λ y. take i xs ++ y ∷ []) (sym e))

map_snoc : {A B : Type 0} (f : A → B) (xs : List A) (x : A) → map f (xs ++ x ∷ []) ≡ map f xs ++ f x ∷ []
map_snoc f [] x = refl
map_snoc f (y ∷ ys) x = ap (λ r. f y ∷ r) (map_snoc f ys x)

pub map_more : {A : Type 0} (f : A → Option ℕ) (xs : List A) (i : ℕ) (x d : A) (ys : List ℕ) (y : ℕ) → i < length xs →
    x ≡ get_or xs i d → f x ≡ Some y → map f (take i xs) ≡ map Some ys → map f (take (i + 1) xs) ≡ map Some (ys ++ y
    ∷ [])
map_more f xs i x d ys y h e g m =
    ap (map f) (one_more xs i x d h e) ∙ map_snoc f (take i xs) x ∙ ap (λ r. r ++ f x ∷ []) m
    ∙ ap (λ r. map Some ys ++ r ∷ []) g ∙ sym (map_snoc Some ys y)

none_in : {A : Type 0} (f : A → Option ℕ) (front : List A) (x : A) (back : List A) (ys : List ℕ) → f x ≡ None →
    map f (front ++ x ∷ back) ≡ map Some ys → ⊥
none_in f [] x back [] e m = absurd cc
none_in f [] x back (y ∷ ys) e m = absurd cc
none_in f (a ∷ front) x back [] e m = absurd cc
none_in f (a ∷ front) x back (y ∷ ys) e m = none_in f front x back ys e cc

pub map_none : {A : Type 0} (f : A → Option ℕ) (xs : List A) (i : ℕ) (x d : A) (ys : List ℕ) → i < length xs →
    x ≡ get_or xs i d → f x ≡ None → map f xs ≡ map Some ys → ⊥
map_none f xs i x d ys h e g m = none_in f (take i xs) x (drop (suc i) xs) ys g
    (ap (map f) (sym (at_place xs i x d h e)) ∙ m)

pub somes_same : (xs ys : List ℕ) → ◌≡◌ {A = List (Option ℕ)} (map Some xs) (map Some ys) → xs ≡ ys
somes_same [] [] h = refl
somes_same [] (y ∷ ys) h = absurd cc
somes_same (x ∷ xs) [] h = absurd cc
somes_same (x ∷ xs) (y ∷ ys) h = let e : x ≡ y = cc in let t : xs ≡ ys = somes_same xs ys cc in cc

-- the bytes of one word more
flat_snoc : (ws : List ℕ) (w : ℕ) → flat_map word_bytes (ws ++ w ∷ []) ≡ flat_map word_bytes ws ++ word_bytes w
flat_snoc [] w = refl
flat_snoc (v ∷ ws) w = ap (λ r. word_bytes v ++ r) (flat_snoc ws w)
    ∙ sym (append_assoc (word_bytes v) (flat_map word_bytes ws) (word_bytes w))

pub words_more : (list : List Label) (vs : List Expression) (i : ℕ) (v d : Expression) (code : List ℕ) (w : ℕ)
    (more : List ℕ) → i < length vs → v ≡ get_or vs i d → value_word list v ≡ Some w → more ≡ code ++ word_bytes w →
    AreWordsOf list (take i vs) code → AreWordsOf list (take (i + 1) vs) more
words_more list vs i v d code w more h e g b a = record {
  values = a.values ++ w ∷ [];
  are = map_more (value_word list) vs i v d a.values w h e g a.are;
  bytes = b ∙ ap (λ r. r ++ word_bytes w) a.bytes ∙ sym (flat_snoc a.values w);
}

pub words_none : (list : List Label) (vs : List Expression) (i : ℕ) (v d : Expression) (code : List ℕ) → i < length vs →
    v ≡ get_or vs i d → value_word list v ≡ None → AreWordsOf list vs code → ⊥
words_none list vs i v d code h e g a = map_none (value_word list) vs i v d a.values h e g a.are

pub words_once : (list : List Label) (vs : List Expression) (a b : List ℕ) → AreWordsOf list vs a →
    AreWordsOf list vs b → a ≡ b
words_once list vs a b p q = p.bytes ∙ ap (flat_map word_bytes) (somes_same p.values q.values (sym p.are ∙ q.are))
    ∙ sym q.bytes

-- ---- all

all_snoc : {A : Type 0} (P : A → Type 0) (xs : List A) (x : A) → AllByRecursion P xs → P x →
    AllByRecursion P (xs ++ x ∷ [])
all_snoc P [] x a p = (p, tt)
all_snoc P (y ∷ ys) x a p = (a.0, all_snoc P ys x a.1 p)

pub all_more : {A : Type 0} (P : A → Type 0) (xs : List A) (i : ℕ) (x d : A) → i < length xs → x ≡ get_or xs i d → P x →
    AllByRecursion P (take i xs) → AllByRecursion P (take (i + 1) xs)
all_more P xs i x d h e p a = subst (AllByRecursion P) (sym (one_more xs i x d h e)) (all_snoc P (take i xs) x a p)

all_in : {A : Type 0} (P : A → Type 0) (front : List A) (x : A) (back : List A) → AllByRecursion P (front ++ x ∷ back) →
    P x
all_in P [] x back a = a.0
all_in P (y ∷ front) x back a = all_in P front x back a.1

pub all_at : {A : Type 0} (P : A → Type 0) (xs : List A) (i : ℕ) (x d : A) → i < length xs → x ≡ get_or xs i d →
    AllByRecursion P xs → P x
all_at P xs i x d h e a = all_in P (take i xs) x (drop (suc i) xs) (subst (AllByRecursion P) (at_place xs i x d h e) a)

pub some_not_none : {A : Type 0} (r : Option A) → IsSome r → None ≡ r → ⊥
some_not_none None h e = absurd cc
some_not_none (Some x) h e = cc

pub is_some_at : {A : Type 0} (r : Option A) (x : A) → Some x ≡ r → IsSome r
is_some_at None x e = absurd cc
is_some_at (Some y) x e = refl

pub take_all : {A : Type 0} (xs : List A) (i : ℕ) → i ≡ length xs → take i xs ≡ xs
take_all xs i e = ap (λ k. take k xs) e ∙ take-length xs
