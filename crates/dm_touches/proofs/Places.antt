-- What a write keeps, by the places of addresses.
use Rattle.std.proofs.Common.{◌≡◌, ◌≢◌, ℕ, suc, zero, ◌+◌, ◌*◌, ◌/◌, ◌%◌, Bool, true, false, List, [], ◌∷◌, ◌++◌, Option, Some, None, get_or, set, refl, sym, ◌∙◌, ap, ap₂, subst, append-nil, get_or-set_other}
use Rattle.std.specs.Prelude.{All}
use Rattle.std.proofs.lemmas.List.Elements.{All-nil, All-cons, All-head, All-tail}
use Rattle.dm_space.specs.declared.place.Place.{Place}
use Rattle.dm_space.specs.declared.place.Place.TheVariants.{Low, Page, Rom, Nothing}
use Rattle.dm_space.specs.Memory.{Memory, linear, place, poke, poke16, byte_at, with_byte}
use Rattle.dm_space.specs.Places.{IsShaped}
use Rattle.dm_space.proofs.Places.{place-shaped, shaped-same, shaped-then, poke-shaped}
use Rattle.dm_cpu.specs.Guest.{up}
use Rattle.dm_touches.specs.declared.elements.FarAddress.{FarAddress}
use Rattle.dm_touches.specs.declared.elements.Element.{Element}
use Rattle.dm_touches.specs.declared.elements.Element.TheVariants as element
use Rattle.dm_touches.specs.Elements.{far, linear_of, byte_place, bytes_in, bytes_if, bytes_of, one_element, two_elements, nothing}
use Rattle.dm_touches.specs.Laws.{KeepsOthers}

-- ---- one byte

set_other : (xs : List ℕ) (i k v : ℕ) → k ≢ i → get_or (set xs i v) k 0 ≡ get_or xs k 0
set_other xs i k v ne = rw get_or-set_other refl

page_set_other : (pages : List (List ℕ)) (p i v q k : ℕ) → (q ≡ p → k ≢ i) →
    get_or (get_or (set pages p (set (get_or pages p []) i v)) q []) k 0 ≡ get_or (get_or pages q []) k 0
page_set_other [] p i v q k ne = refl
page_set_other (xs ∷ pages) zero i v zero k ne = set_other xs i k v (ne refl)
page_set_other (xs ∷ pages) zero i v (suc q) k ne = refl
page_set_other (xs ∷ pages) (suc p) i v zero k ne = refl
page_set_other (xs ∷ pages) (suc p) i v (suc q) k ne = page_set_other pages p i v q k (λ e. ne (ap suc e))

page_of : (p k q i : ℕ) → p ≡ q → k ≡ i → Page p k ≡ Page q i
page_of p k q i e f = cc

kept_with : (S : Memory) (p q : Place) (v : ℕ) → q ≢ p → byte_at (with_byte S p v) q ≡ byte_at S q
kept_with S (Low a) (Low b) v ne = set_other S.low a b v (λ e. ne (ap Low e))
kept_with S (Page p i) (Page q k) v ne = page_set_other S.blocks.contents p i v q k (λ e f. ne (page_of q k p i e f))
kept_with S (Low a) (Page q k) v ne = refl
kept_with S (Low a) (Rom k) v ne = refl
kept_with S (Low a) Nothing v ne = refl
kept_with S (Page p i) (Low b) v ne = refl
kept_with S (Page p i) (Rom k) v ne = refl
kept_with S (Page p i) Nothing v ne = refl
kept_with S (Rom i) q v ne = refl
kept_with S Nothing q v ne = refl

poke_kept : (m : Memory) (a v : ℕ) (q : Place) → q ≢ place m a → byte_at (poke m a v) q ≡ byte_at m q
unfolding poke
poke_kept m a v q ne = kept_with m (place m a) q v ne

-- ---- lists of bytes

same_place : (m n : Memory) → IsShaped m n → (f : FarAddress) → byte_place n f ≡ byte_place m f
same_place m n s f = place-shaped m n s (linear_of n.a20 f) ∙ ap (λ (b : Bool). place m (linear_of b f)) s.a20

pub keeps_all : (m : Memory) → KeepsOthers m m []
keeps_all m = record { shape = shaped-same m; kept = λ q h. refl }

pub keeps_as : (m n : Memory) (fs gs : List FarAddress) → fs ≡ gs → KeepsOthers m n fs → KeepsOthers m n gs
keeps_as m n fs gs e k = subst (λ (l : List FarAddress). KeepsOthers m n l) e k

front_of : (P : FarAddress → Type 0) (xs ys : List FarAddress) → All P (xs ++ ys) → All P xs
front_of P [] ys a = All-nil P
front_of P (x ∷ xs) ys a = All-cons P x xs (All-head P x (xs ++ ys) a) (front_of P xs ys (All-tail P x (xs ++ ys) a))

back_of : (P : FarAddress → Type 0) (xs ys : List FarAddress) → All P (xs ++ ys) → All P ys
back_of P [] ys a = a
back_of P (x ∷ xs) ys a = back_of P xs ys (All-tail P x (xs ++ ys) a)

moved : (m n : Memory) → IsShaped m n → (q : Place) (fs : List FarAddress) →
    All (λ (f : FarAddress). byte_place m f ≢ q) fs → All (λ (f : FarAddress). byte_place n f ≢ q) fs
moved m n s q [] a = All-nil (λ (f : FarAddress). byte_place n f ≢ q)
moved m n s q (f ∷ fs) a =
    let P : FarAddress → Type 0 = λ g. byte_place m g ≢ q in
    All-cons (λ (g : FarAddress). byte_place n g ≢ q) f fs (λ e. All-head P f fs a (sym (same_place m n s f)
    ∙ e)) (moved m n s q fs (All-tail P f fs a))

pub keeps_then : (m n o : Memory) (xs ys : List FarAddress) → KeepsOthers m n xs → KeepsOthers n o ys →
    KeepsOthers m o (xs ++ ys)
keeps_then m n o xs ys k l = record {
  shape = shaped-then m n o k.shape l.shape;
  kept = λ q a. (let P : FarAddress → Type 0 = λ f. byte_place m f ≢ q in
      l.kept q (moved m n k.shape q ys (back_of P xs ys a)) ∙ k.kept q (front_of P xs ys a));
}

-- ---- elements

byte_keeps : (m : Memory) (a v : ℕ) (f : FarAddress) → a ≡ linear_of m.a20 f → KeepsOthers m (poke m a v) (f ∷ [])
byte_keeps m a v f e = record {
  shape = poke-shaped m a v;
  kept = λ q h. (let P : FarAddress → Type 0 = λ g. byte_place m g ≢ q in
      poke_kept m a v q (λ same. All-head P f [] h (ap (place m) (sym e) ∙ sym same)));
}

pub keeps_byte : (m : Memory) (s o v : ℕ) → KeepsOthers m (poke m (linear m.a20 s o) v) (bytes_in (element.Byte s o))
keeps_byte m s o v = byte_keeps m (linear m.a20 s o) v (far s o) refl

pub keeps_word : (m : Memory) (s o v : ℕ) → KeepsOthers m (poke16 m s o v) (bytes_in (element.Word s o))
keeps_word m s o v =
    let n : Memory = poke m (linear m.a20 s o) (v % 256) in
    let low : KeepsOthers m n (far s o ∷ []) = byte_keeps m (linear m.a20 s o) (v % 256) (far s o) refl in
    let same : linear m.a20 s (up o 1) ≡ linear n.a20 s (up o 1) =
    ap (λ (b : Bool). linear b s (up o 1)) (sym low.shape.a20) in
    keeps_then m n _ (far s o ∷ []) (far s (up o 1) ∷ []) low (byte_keeps n (linear m.a20 s (up o 1)) (v / 256)
    (far s (up o 1)) same)

-- one element that may be missing
pub keeps_one : (m n : Memory) (e : Option Element) → KeepsOthers m n (bytes_if e) →
    KeepsOthers m n (bytes_of (one_element e))
keeps_one m n e k = keeps_as m n _ _ (sym (append-nil (bytes_if e ++ []) ∙ append-nil (bytes_if e))) k

-- two elements that may be missing
pub keeps_two : (m n : Memory) (a b : Option Element) → KeepsOthers m n (bytes_if a ++ bytes_if b) →
    KeepsOthers m n (bytes_of (two_elements a b))
keeps_two m n a b k = keeps_as m n _ _ (sym (append-nil (bytes_if a ++ bytes_if b))) k
