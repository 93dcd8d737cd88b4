-- Pages that no window shows neither matter to a read nor change by a write
use Rattle.std.proofs.Common.{◌≡◌, ℕ, suc, zero, ◌+◌, ◌-◌, ◌/◌, ◌%◌, Bool, true, false, cond, nat_lt, List, [], ◌∷◌, length, Option, Some, None, get_or, set, refl, sym, ◌∙◌, ap, subst, arith, zero-add}
use Rattle.std.proofs.lemmas.Bool.Decides.{nat_tests}
use Rattle.dm_space.specs.declared.place.Place.{Place}
use Rattle.dm_space.specs.declared.place.Place.TheVariants.{Low, Page, Rom, Nothing}
use Rattle.dm_space.specs.Memory.{Memory, place, shown, peek, poke, byte_at, with_blocks, with_byte, page_bytes}
use Rattle.dm_space.specs.Places.{IsShaped}
use Rattle.dm_space.specs.Unseen.{shows, mixed, unseen_as, ReadsIgnoreUnseen, WritesKeepUnseen, UnseenPagesAreUnseen}

mixed-get : (seen : ℕ → Bool) (other : ℕ → List ℕ) (i : ℕ) (xs : List (List ℕ)) (k : ℕ) → seen (i + k) ≡ true →
    get_or (mixed seen other i xs) k [] ≡ get_or xs k []
mixed-get seen other i [] k h = refl
mixed-get seen other i (x ∷ xs) zero h = let e : seen i ≡ true = subst (λ n. seen n ≡ true) (omega arith) h in rw e refl
mixed-get seen other i (x ∷ xs) (suc k) h = mixed-get seen other (suc i) xs k (subst (λ n. seen n
    ≡ true) (omega arith) h)

mixed-set : (seen : ℕ → Bool) (other : ℕ → List ℕ) (i : ℕ) (xs : List (List ℕ)) (k : ℕ) (v : List ℕ) →
    seen (i + k) ≡ true → mixed seen other i (set xs k v) ≡ set (mixed seen other i xs) k v
mixed-set seen other i [] k v h = refl
mixed-set seen other i (x ∷ xs) zero v h = let e : seen i ≡ true = subst (λ n. seen n ≡ true) (omega arith) h in
    rw e refl
mixed-set seen other i (x ∷ xs) (suc k) v h = ap (λ ys. cond (seen i) x (other i)
    ∷ ys) (mixed-set seen other (suc i) xs k v (subst (λ n. seen n ≡ true) (omega arith) h))

pub shows-at : (windows : List (Option ℕ)) (k page : ℕ) → get_or windows k None ≡ Some page → shows windows page ≡ true
shows-at [] k page h = cc
shows-at (None ∷ windows) zero page h = cc
shows-at (None ∷ windows) (suc k) page h = shows-at windows k page h
shows-at (Some q ∷ windows) zero page h = let e : q ≡ page = cc in grind (arith, nat_tests)
shows-at (Some q ∷ windows) (suc k) page h = rw (shows-at windows k page h) (grind arith)

-- a place is in no page that is not shown
abbrev Seen : Memory → Place → Type 0
Seen m (Low a) = Unit {0}
Seen m (Page page k) = shows m.windows page ≡ true
Seen m (Rom k) = Unit {0}
Seen m Nothing = Unit {0}

seen-either : (m : Memory) (b : Bool) (p q : Place) → Seen m p → Seen m q → Seen m (cond b p q)
seen-either m true p q h k = h
seen-either m false p q h k = k

seen-window : (m : Memory) (w : Option ℕ) (i k : ℕ) → get_or m.windows i None ≡ w → Seen m (shown w k)
seen-window m None i k e = tt
seen-window m (Some page) i k e = shows-at m.windows i page e

seen-place : (m : Memory) (a : ℕ) → Seen m (place m a)
unfolding place
seen-place m a =
    seen-either m (nat_lt a 0xC0000) (Low a) _ tt
    (seen-either m (nat_lt a 0xD0000) Nothing _ tt
    (seen-either m (nat_lt a 0xE0000) (Low a) _ tt
    (seen-either m (nat_lt a 0xF0000) _ _ (seen-window m _ ((a - 0xE0000) / 0x4000) ((a - 0xE0000) % 0x4000) refl)
    (seen-either m (nat_lt a 0x100000) (Rom (a - 0xF0000)) _ tt
    (seen-either m (nat_lt a 0x10FFF0) (Low a) Nothing tt tt)))))

page_bytes-unseen : (m : Memory) (other : ℕ → List ℕ) (page : ℕ) → shows m.windows page ≡ true →
    page_bytes (unseen_as m other) page ≡ page_bytes m page
unfolding unseen_as
page_bytes-unseen m other page h = mixed-get (shows m.windows) other 0 m.blocks.contents page (rw zero-add h)

byte_at-unseen : (m : Memory) (other : ℕ → List ℕ) (p : Place) → Seen m p → byte_at (unseen_as m other) p ≡ byte_at m p
unfolding unseen_as
byte_at-unseen m other (Low a) h = refl
byte_at-unseen m other (Page page k) h = ap (λ (bytes : List ℕ). get_or bytes k 0) (page_bytes-unseen m other page h)
byte_at-unseen m other (Rom k) h = refl
byte_at-unseen m other Nothing h = refl

with_byte-unseen : (m : Memory) (other : ℕ → List ℕ) (p : Place) (v : ℕ) → Seen m p →
    with_byte (unseen_as m other) p v ≡ unseen_as (with_byte m p v) other
unfolding unseen_as
with_byte-unseen m other (Low a) v h = refl
with_byte-unseen m other (Page page k) v h =
    let bytes = set (page_bytes m page) k v in
    ap (λ (ps : List (List ℕ)). with_blocks m (record m.blocks { contents = ps }))
    (ap (λ (old : List ℕ). set (mixed (shows m.windows) other 0 m.blocks.contents) page (set old k v))
    (page_bytes-unseen m other page h)
    ∙ sym (mixed-set (shows m.windows) other 0 m.blocks.contents page bytes (rw zero-add h)))
with_byte-unseen m other (Rom k) v h = refl
with_byte-unseen m other Nothing v h = refl

place-unseen : (m : Memory) (other : ℕ → List ℕ) (a : ℕ) → place (unseen_as m other) a ≡ place m a
unfolding place unseen_as
place-unseen m other a = refl

-- a read does not depend on pages that no window shows
pub peek-unseen : ReadsIgnoreUnseen
unfolding peek
peek-unseen m other a = ap (byte_at (unseen_as m other)) (place-unseen m other a)
    ∙ byte_at-unseen m other (place m a) (seen-place m a)

-- a write leaves them
pub poke-unseen : WritesKeepUnseen
unfolding poke
poke-unseen m other a v = ap (λ p. with_byte (unseen_as m other) p v) (place-unseen m other a)
    ∙ with_byte-unseen m other (place m a) v (seen-place m a)

-- A20 is no part of them
pub a20-unseen : (m : Memory) (other : ℕ → List ℕ) → (unseen_as m other).a20 ≡ m.a20
unfolding unseen_as
a20-unseen m other = refl

length-mixed : (seen : ℕ → Bool) (other : ℕ → List ℕ) (i : ℕ) (xs : List (List ℕ)) →
    length (mixed seen other i xs) ≡ length xs
length-mixed seen other i [] = refl
length-mixed seen other i (x ∷ xs) = ap suc (length-mixed seen other (suc i) xs)

either-same : (g : List ℕ → ℕ) (b : Bool) (x y o : List ℕ) → g y ≡ g x → g (cond b y o) ≡ g (cond b x o)
either-same g true x y o e = e
either-same g false x y o e = refl

-- what is told of a page is the same of both lists after the change, if it is before
mixed-same : (g : List ℕ → ℕ) (seen : ℕ → Bool) (other : ℕ → List ℕ) (i : ℕ) (xs ys : List (List ℕ)) (k : ℕ) →
    length ys ≡ length xs →
    g (get_or ys k []) ≡ g (get_or xs k []) → g (get_or (mixed seen other i ys) k [])
    ≡ g (get_or (mixed seen other i xs) k [])
mixed-same g seen other i [] [] k l e = refl
mixed-same g seen other i [] (y ∷ ys) k l e = absurd (omega arith)
mixed-same g seen other i (x ∷ xs) [] k l e = absurd (omega arith)
mixed-same g seen other i (x ∷ xs) (y ∷ ys) zero l e = either-same g (seen i) x y (other i) e
mixed-same g seen other i (x ∷ xs) (y ∷ ys) (suc k) l e = mixed-same g seen other (suc i) xs ys k (omega arith) e

pages-same : (g : List ℕ → ℕ) (S T : Memory) (other : ℕ → List ℕ) (page : ℕ) → IsShaped S T →
    g (page_bytes T page) ≡ g (page_bytes S page) →
    g (page_bytes (unseen_as T other) page) ≡ g (page_bytes (unseen_as S other) page)
unfolding unseen_as
pages-same g S T other page shape e =
    ap (λ windows. g (get_or (mixed (shows windows) other 0 T.blocks.contents) page [])) shape.windows
    ∙ mixed-same g (shows S.windows) other 0 S.blocks.contents T.blocks.contents page shape.page_count e

count-same : (S T : Memory) (other : ℕ → List ℕ) → IsShaped S T → length (unseen_as T other).blocks.contents
    ≡ length (unseen_as S other).blocks.contents
unfolding unseen_as
count-same S T other shape =
    length-mixed (shows T.windows) other 0 T.blocks.contents ∙ shape.page_count
    ∙ sym (length-mixed (shows S.windows) other 0 S.blocks.contents)

shape-unseen : (S T : Memory) (other : ℕ → List ℕ) → IsShaped S T → IsShaped (unseen_as S other) (unseen_as T other)
unfolding unseen_as
shape-unseen S T other shape = record {
  a20 = shape.a20;
  windows = shape.windows;
  ram_size = shape.ram_size;
  units = shape.units;
  places = shape.places;
  page_count = count-same S T other shape;
  page_sizes = λ page. pages-same length S T other page shape (shape.page_sizes page);
}

byte-unseen : (S T : Memory) (other : ℕ → List ℕ) (p : Place) → IsShaped S T → byte_at T p ≡ byte_at S p →
    byte_at (unseen_as T other) p ≡ byte_at (unseen_as S other) p
unfolding unseen_as
byte-unseen S T other (Low a) shape e = e
byte-unseen S T other (Page page k) shape e = pages-same (λ (bytes : List ℕ). get_or bytes k 0) S T other page shape e
byte-unseen S T other (Rom k) shape e = e
byte-unseen S T other Nothing shape e = e

pub pages-unseen : UnseenPagesAreUnseen
pages-unseen other = record {
  a20 = λ m. a20-unseen m other;
  place_same = λ m a. place-unseen m other a;
  peek_same = λ m a. peek-unseen m other a;
  poke_same = λ m a v. poke-unseen m other a v;
  shape_same = λ S T. shape-unseen S T other;
  byte_same = λ S T. byte-unseen S T other;
}
