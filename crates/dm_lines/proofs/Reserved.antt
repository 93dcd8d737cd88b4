-- The reserved words that begin as a word does are all that it can be.
use Rattle.std.proofs.Common.{◌≡◌, ℕ, Bool, true, false, List, [], ◌∷◌, Option, refl, sym, ap, ◌∙◌, eq-eqb, nat_eq, ◌&&◌}
use Rattle.std.specs.Prelude.{codes, if◌then◌else◌, slice_index}
use Rattle.std.specs.List.{list_all}
use Rattle.std.specs.Str.{bytes_eq}
use Rattle.std.proofs.lemmas.Bool.{eqb-true}
use Rattle.std.proofs.lemmas.Slice.Eq.{bytes_eq-Decides}
use Rattle.dm_decode.specs.Names.{named, name_of}
use Rattle.dm_lines.specs.declared.words.Reserved.{Reserved}
use Rattle.dm_lines.specs.inner.Words.{all_words, those, onto, spelling_of, begins}

none_chosen : {A : Type 0} (p : A → Bool) (name_in : A → List ℕ) (x : A) (xs ys : List A) (w : List ℕ) (s t : Bool) →
    p x ≡ s → bytes_eq (name_in x) w ≡ t → (t ≡ true → s ≡ true) → named name_in ys w ≡ named name_in xs w →
    named name_in (onto (p x) x ys) w ≡ named name_in (x ∷ xs) w
none_chosen p name_in x xs ys w true true e f h r = rw (e, f) refl
none_chosen p name_in x xs ys w true false e f h r = rw (e, f) r
none_chosen p name_in x xs ys w false true e f h r = absurd (let k : false ≡ true = h refl in cc)
none_chosen p name_in x xs ys w false false e f h r = rw (e, f) r

-- a test that is true of each thing with the name leaves none of them out
named_those : {A : Type 0} (p : A → Bool) (name_in : A → List ℕ) (xs : List A) (w : List ℕ) →
    ((x : A) → bytes_eq (name_in x) w ≡ true → p x ≡ true) → named name_in (those p xs) w ≡ named name_in xs w
named_those p name_in [] w h = refl
named_those p name_in (x ∷ xs) w h = none_chosen p name_in x xs (those p xs) w (p x) (bytes_eq (name_in x) w) refl refl
    (h x) (named_those p name_in xs w h)

named_beginning : (w : List ℕ) → named spelling_of (those (begins (slice_index w 0)) all_words) w
    ≡ named spelling_of all_words w
named_beginning w = named_those (begins (slice_index w 0)) spelling_of all_words w (λ r e. let f : spelling_of r ≡ w =
    (bytes_eq-Decides (spelling_of r) w).0 e in eq-eqb (slice_index (spelling_of r) 0) (slice_index w 0)
    (ap (λ (v : List ℕ). slice_index v 0) f))

-- what is found among those that begin so is what is found among all
pub found_in_all : (w : List ℕ) (ws : List Reserved) (r s : Option Reserved) →
    ws ≡ those (begins (slice_index w 0)) all_words → r ≡ named spelling_of ws w → r ≡ s →
    s ≡ named spelling_of all_words w
found_in_all w ws r s e f g = sym g ∙ f ∙ ap (λ (vs : List Reserved). named spelling_of vs w) e ∙ named_beginning w

-- ---- bytes with which no reserved word begins

abbrev pub is_in : ℕ → List ℕ → Bool
is_in b [] = false
is_in b (l ∷ ls) = if nat_eq b l then true else is_in b ls

-- the first bytes of the reserved words
abbrev pub firsts : List ℕ
firsts = codes "ABCDEFHIJLMNOPRSTWX"

both_true : (a b : Bool) → (a && b) ≡ true → (a ≡ true) × (b ≡ true)
both_true true true e = (refl, refl)
both_true true false e = absurd cc
both_true false b e = absurd cc

none_those : {A : Type 0} (p q : A → Bool) (xs : List A) → list_all q xs ≡ true → ((x : A) → q x ≡ true → p x ≡ false) →
    those p xs ≡ []
none_those p q [] a h = refl
none_those p q (x ∷ xs) a h =
    let u = both_true (q x) (list_all q xs) a in
    rw (h x u.0) (none_those p q xs u.1 h)

apart : (n b : ℕ) (t : Bool) → nat_eq n b ≡ t → is_in n firsts ≡ true → is_in b firsts ≡ false → nat_eq n b ≡ false
apart n b true e p q = absurd (let f : n ≡ b = eqb-true n b e in let g : is_in n firsts ≡ false =
    ap (λ (k : ℕ). is_in k firsts) f ∙ q in let h : true ≡ false = sym p ∙ g in cc)
apart n b false e p q = e

all_begin : list_all (λ r. is_in (slice_index (spelling_of r) 0) firsts) all_words ≡ true
unfolding name_of
all_begin = refl

pub none_begin : (b : ℕ) → is_in b firsts ≡ false → those (begins b) all_words ≡ []
none_begin b h = none_those (begins b) (λ r. is_in (slice_index (spelling_of r) 0) firsts) all_words all_begin
    (λ r t. apart (slice_index (spelling_of r) 0) b (nat_eq (slice_index (spelling_of r) 0) b) refl t h)
