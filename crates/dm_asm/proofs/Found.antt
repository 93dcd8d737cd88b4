-- Labels in lists.
use Rattle.std.proofs.Common.{◌≡◌, ℕ, Bool, true, false, List, [], ◌∷◌, ◌++◌, Option, Some, None, refl, sym, ap, ◌∙◌, if◌then◌else◌}
use Rattle.std.specs.Prelude.{is_some}
use Rattle.std.specs.Str.{bytes_eq}
use Rattle.std.proofs.lemmas.Slice.Eq.{bytes_eq-Decides}
use Rattle.std.proofs.lemmas.Bool.{false_from_ne_true}
use Rattle.dm_lines.specs.declared.token.Name as Name'
use Rattle.dm_asm.specs.Labels.{Label, place_of_label}
use Rattle.dm_asm.specs.Programs.{AreOnce}

split_none : (t : Bool) (x : ℕ) (r : Option ℕ) → (if t then Some x else r) ≡ None → (t ≡ false) × (r ≡ None)
split_none true x r h = absurd cc
split_none false x r h = (refl, h)

apart_from : (t u : Bool) (a p : ℕ) (r : Option ℕ) → (t ≡ true → u ≡ true → ⊥) →
    (if t then Some a else (if u then Some p else r)) ≡ (if u then Some p else (if t then Some a else r))
apart_from true true a p r h = absurd (h refl refl)
apart_from true false a p r h = refl
apart_from false true a p r h = refl
apart_from false false a p r h = refl

-- two names that are one
joined_names : (a b c : List ℕ) → bytes_eq a c ≡ true → bytes_eq b c ≡ true → bytes_eq a b ≡ true
joined_names a b c e f = (bytes_eq-Decides a b).1 ((bytes_eq-Decides a c).0 e ∙ sym ((bytes_eq-Decides b c).0 f))

other_way : (a b : List ℕ) → bytes_eq a b ≡ false → bytes_eq b a ≡ false
other_way a b h = false_from_ne_true (bytes_eq b a) (λ e. let g : bytes_eq a b ≡ true =
    (bytes_eq-Decides a b).1 (sym ((bytes_eq-Decides b a).0 e)) in cc)

wrong : (b : Bool) → b ≡ true → b ≡ false → ⊥
wrong b p q = cc

pub find_more : (q name : Name'.Name) (place : ℕ) (ls : List Label) → place_of_label name ls ≡ None →
    place_of_label q (ls ++ record { name = name; place = place } ∷ []) ≡ (if bytes_eq name.bytes q.bytes then
    Some place else place_of_label q ls)
find_more q name place [] h = refl
find_more q name place (l ∷ ls) h =
    let s = split_none (bytes_eq l.name.bytes name.bytes) l.place (place_of_label name ls) h in
    ap (λ r. if bytes_eq l.name.bytes q.bytes then Some l.place else r) (find_more q name place ls s.1)
    ∙ apart_from (bytes_eq l.name.bytes q.bytes) (bytes_eq name.bytes q.bytes) l.place place (place_of_label q ls)
    (λ e f. wrong (bytes_eq l.name.bytes name.bytes) (joined_names l.name.bytes name.bytes q.bytes e f) s.0)

pub none_front : (name : Name'.Name) (xs ys : List Label) → place_of_label name (xs ++ ys) ≡ None →
    place_of_label name xs ≡ None
none_front name [] ys h = refl
none_front name (x ∷ xs) ys h =
    let s = split_none (bytes_eq x.name.bytes name.bytes) x.place (place_of_label name (xs ++ ys)) h in
    rw s.0 (none_front name xs ys s.1)

none_at : (name : Name'.Name) (xs : List Label) (l : Label) (ys : List Label) → place_of_label name (xs ++ l
    ∷ ys) ≡ None → bytes_eq l.name.bytes name.bytes ≡ false
none_at name [] l ys h = (split_none (bytes_eq l.name.bytes name.bytes) l.place (place_of_label name ys) h).0
none_at name (x ∷ xs) l ys h = none_at name xs l ys (split_none (bytes_eq x.name.bytes name.bytes) x.place
    (place_of_label name (xs ++ l ∷ ys)) h).1

pub once_front : (xs ys : List Label) → AreOnce (xs ++ ys) → AreOnce xs
once_front [] ys h = tt
once_front (x ∷ xs) ys h = (none_front x.name xs ys h.0, once_front xs ys h.1)

-- a label that is there once stands in no front
pub once_free : (xs : List Label) (l : Label) (ys : List Label) → AreOnce (xs ++ l ∷ ys) →
    place_of_label l.name xs ≡ None
once_free [] l ys h = refl
once_free (x ∷ xs) l ys h =
    rw (other_way l.name.bytes x.name.bytes (none_at x.name xs l ys h.0)) (once_free xs l ys h.1)

pub once_more : (xs : List Label) (l : Label) → AreOnce xs → place_of_label l.name xs ≡ None → AreOnce (xs ++ l ∷ [])
once_more [] l o h = (refl, tt)
once_more (x ∷ xs) l o h =
    let s = split_none (bytes_eq x.name.bytes l.name.bytes) x.place (place_of_label l.name xs) h in
    (find_more x.name l.name l.place xs s.1 ∙ rw (other_way x.name.bytes l.name.bytes s.0) o.0, once_more xs l o.1 s.1)

-- what a map had under a name, and so what a list has
pub is_new : (old stood found : Option ℕ) → is_some old ≡ false → old ≡ stood → stood ≡ found → found ≡ None
is_new None stood found t e f = sym (e ∙ f)
is_new (Some x) stood found t e f = absurd cc

pub is_old : (old stood found : Option ℕ) → is_some old ≡ true → old ≡ stood → stood ≡ found → found ≡ None → ⊥
is_old None stood found t e f g = let h : false ≡ true = t in cc
is_old (Some x) stood found t e f g = let h : Some x ≡ None = e ∙ f ∙ g in cc
