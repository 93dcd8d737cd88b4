-- Stores into memories of one map: where both have the same byte before, and where the bytes are stored, both have the
-- same byte afterwards.
use Rattle.std.proofs.Common.{◌≡◌, ◌≢◌, ℕ, zero, suc, ◌-◌, ◌/◌, ◌%◌, nat_lt, Bool, true, false, List, [], ◌∷◌, map, length, get_or, set, Option, Some, None, refl, sym, ◌∙◌, ap, subst, arith, inl, inr, get_or-set_other}
use Rattle.std.proofs.lemmas.Bool.{cases_eq}
use Rattle.std.proofs.lemmas.List.Elements.{All-head, All-tail}
use Rattle.std.specs.Prelude.{◌⊎◌, All, Contains, IfSome, if◌then◌else◌, slice_index_or}
use Rattle.dm_space.specs.declared.place.Place.{Place}
use Rattle.dm_space.specs.declared.place.Place.TheVariants.{Low, Page, Rom, Nothing}
use Rattle.dm_space.specs.Memory.{Memory, place, peek, poke, shown, byte_at, with_byte, page_bytes}
use Rattle.dm_space.proofs.Places.{place-windows, poke-shaped}
use Rattle.dm_touches.specs.declared.elements.FarAddress.{FarAddress}
use Rattle.dm_touches.specs.Elements.{linear_of, byte_place}
use Rattle.dm_laws.specs.footprints.Footprints.{seen, StoredByte, stored, HasMapOf}

-- ---- lists of bytes, and lists of pages

set_agrees : (xs ys : List ℕ) (i v k : ℕ) → length ys ≡ length xs → get_or ys k 0 ≡ get_or xs k 0 →
    get_or (set ys i v) k 0 ≡ get_or (set xs i v) k 0
set_agrees [] [] i v k l e = e
set_agrees [] (y ∷ ys) i v k l e = absurd (omega arith)
set_agrees (x ∷ xs) [] i v k l e = absurd (omega arith)
set_agrees (x ∷ xs) (y ∷ ys) zero v zero l e = refl
set_agrees (x ∷ xs) (y ∷ ys) zero v (suc k) l e = e
set_agrees (x ∷ xs) (y ∷ ys) (suc i) v zero l e = e
set_agrees (x ∷ xs) (y ∷ ys) (suc i) v (suc k) l e = set_agrees xs ys i v k (omega arith) e

set_same : (xs ys : List ℕ) (i v : ℕ) → length ys ≡ length xs → get_or (set ys i v) i 0 ≡ get_or (set xs i v) i 0
set_same [] [] i v l = refl
set_same [] (y ∷ ys) i v l = absurd (omega arith)
set_same (x ∷ xs) [] i v l = absurd (omega arith)
set_same (x ∷ xs) (y ∷ ys) zero v l = refl
set_same (x ∷ xs) (y ∷ ys) (suc i) v l = set_same xs ys i v (omega arith)

-- a page of which one byte is set
page_set : (pages : List (List ℕ)) (p i v : ℕ) → get_or (set pages p (set (get_or pages p []) i v)) p []
    ≡ set (get_or pages p []) i v
page_set [] p i v = refl
page_set (x ∷ pages) zero i v = refl
page_set (x ∷ pages) (suc p) i v = page_set pages p i v

-- ---- one byte

-- what holds the place has one size in both memories
abbrev SizedAs : Memory → Memory → Place → Type 0
SizedAs m n (Low a) = length n.low ≡ length m.low
SizedAs m n (Page p k) = length (page_bytes n p) ≡ length (page_bytes m p)
SizedAs m n (Rom k) = Unit {0}
SizedAs m n Nothing = Unit {0}

sized_either : (m n : Memory) (b : Bool) (p q : Place) → SizedAs m n p → SizedAs m n q →
    SizedAs m n (if b then p else q)
sized_either m n true p q h k = h
sized_either m n false p q h k = k

sized_shown : (m n : Memory) (o : Option ℕ) (k : ℕ) → IfSome o (λ page. length (page_bytes n page)
    ≡ length (page_bytes m page)) → SizedAs m n (shown o k)
sized_shown m n None k h = tt
sized_shown m n (Some page) k h = h

sized_place : (m n : Memory) → HasMapOf m n → (a : ℕ) → SizedAs m n (place m a)
unfolding place
sized_place m n h a =
    sized_either m n (nat_lt a 0xC0000) (Low a) _ h.ram_size (
    sized_either m n (nat_lt a 0xD0000) Nothing _ tt (
    sized_either m n (nat_lt a 0xE0000) (Low a) _ h.ram_size (
    sized_either m n (nat_lt a 0xF0000) _ _ (sized_shown m n _ ((a - 0xE0000) % 0x4000)
    (h.page_sizes ((a - 0xE0000) / 0x4000))) (
    sized_either m n (nat_lt a 0x100000) (Rom (a - 0xF0000)) _ tt (
    sized_either m n (nat_lt a 0x10FFF0) (Low a) Nothing h.ram_size tt)))))

page_agrees : (m n : Memory) (p i q k v : ℕ) → length (page_bytes n p) ≡ length (page_bytes m p) → (q ≡ p) ⊎ (q ≢ p) →
    byte_at n (Page q k) ≡ byte_at m (Page q k) → byte_at (with_byte n (Page p i) v) (Page q k)
    ≡ byte_at (with_byte m (Page p i) v) (Page q k)
page_agrees m n p i q k v l (inl e) h =
    rw (e, page_set n.blocks.contents p i v, page_set m.blocks.contents p i v) (set_agrees (page_bytes m p)
    (page_bytes n p) i v k l (rw e at h))
page_agrees m n p i q k v l (inr ne) h =
    rw (
      get_or-set_other n.blocks.contents p q (set (page_bytes n p) i v) [] ne,
      get_or-set_other m.blocks.contents p q (set (page_bytes m p) i v) [] ne,
    ) h

byte_agrees : (m n : Memory) (p q : Place) (v : ℕ) → SizedAs m n p → byte_at n q ≡ byte_at m q →
    byte_at (with_byte n p v) q ≡ byte_at (with_byte m p v) q
byte_agrees m n (Low a) (Low b) v s e = set_agrees m.low n.low a v b s e
byte_agrees m n (Page p i) (Page q k) v s e = page_agrees m n p i q k v s (cases_eq q p) e
byte_agrees m n (Low a) (Page q k) v s e = e
byte_agrees m n (Low a) (Rom k) v s e = e
byte_agrees m n (Low a) Nothing v s e = e
byte_agrees m n (Page p i) (Low b) v s e = e
byte_agrees m n (Page p i) (Rom k) v s e = e
byte_agrees m n (Page p i) Nothing v s e = e
byte_agrees m n (Rom i) q v s e = e
byte_agrees m n Nothing q v s e = e

byte_set : (m n : Memory) (p : Place) (v : ℕ) → SizedAs m n p → byte_at (with_byte n p v) p
    ≡ byte_at (with_byte m p v) p
byte_set m n (Low a) v s = set_same m.low n.low a v s
byte_set m n (Page p i) v s = rw (page_set n.blocks.contents p i v, page_set m.blocks.contents p i v)
    (set_same (page_bytes m p) (page_bytes n p) i v s)
byte_set m n (Rom k) v s = refl
byte_set m n Nothing v s = refl

-- ---- one map

weaker : (P Q : ℕ → Type 0) → ((page : ℕ) → P page → Q page) → (o : Option ℕ) → IfSome o P → IfSome o Q
weaker P Q f None h = h
weaker P Q f (Some page) h = f page h

map_poked : (m n : Memory) (a b v w : ℕ) → HasMapOf m n → HasMapOf (poke m a v) (poke n b w)
map_poked m n a b v w h =
    let s = poke-shaped m a v in
    let t = poke-shaped n b w in
    let P : ℕ → Type 0 = λ page. length (page_bytes n page) ≡ length (page_bytes m page) in
    let Q : ℕ → Type 0 = λ page. length (page_bytes (poke n b w) page) ≡ length (page_bytes (poke m a v) page) in
    let from : (page : ℕ) → P page → Q page = λ page e. t.page_sizes page ∙ e ∙ sym (s.page_sizes page) in
    record {
      a20 = t.a20 ∙ h.a20 ∙ sym s.a20;
      windows = t.windows ∙ h.windows ∙ sym s.windows;
      ram_size = t.ram_size ∙ h.ram_size ∙ sym s.ram_size;
      page_sizes = λ k. subst (λ (windows : List (Option ℕ)). IfSome (slice_index_or windows k None) Q) (sym s.windows)
          (weaker P Q from (slice_index_or m.windows k None) (h.page_sizes k));
    }

pub place_same : (m n : Memory) → HasMapOf m n → (f : FarAddress) → byte_place n f ≡ byte_place m f
place_same m n h f = place-windows m n (linear_of n.a20 f) h.windows ∙ ap (λ (b : Bool). place m (linear_of b f)) h.a20

-- ---- a store at an address

poke_agrees : (m n : Memory) (f : FarAddress) (v : ℕ) (q : Place) → HasMapOf m n → byte_at n q ≡ byte_at m q →
    byte_at (poke n (linear_of n.a20 f) v) q ≡ byte_at (poke m (linear_of m.a20 f) v) q
unfolding poke
poke_agrees m n f v q h e = ap (λ (p : Place). byte_at (with_byte n p v) q) (place_same m n h f)
    ∙ byte_agrees m n (byte_place m f) q v (sized_place m n h (linear_of m.a20 f)) e

poke_set : (m n : Memory) (f : FarAddress) (v : ℕ) (q : Place) → HasMapOf m n → byte_place m f ≡ q →
    byte_at (poke n (linear_of n.a20 f) v) q ≡ byte_at (poke m (linear_of m.a20 f) v) q
unfolding poke
poke_set m n f v q h e =
    let F : Place → Type 0 = λ p. byte_at (with_byte n p v) q ≡ byte_at (with_byte m (byte_place m f) v) q in
    let G : Place → Type 0 = λ p. byte_at (with_byte n (byte_place m f) v) p
    ≡ byte_at (with_byte m (byte_place m f) v) p in
    subst F (sym (place_same m n h f)) (subst G e (byte_set m n (byte_place m f) v
    (sized_place m n h (linear_of m.a20 f))))

-- ---- stores

pub map_stored : (ss : List StoredByte) (m n : Memory) → HasMapOf m n → HasMapOf (stored m ss) (stored n ss)
map_stored [] m n h = h
map_stored (s ∷ ss) m n h = map_stored ss _ _ (map_poked m n (linear_of m.a20 s.address)
    (linear_of n.a20 s.address) s.byte s.byte h)

stored_agrees : (ss : List StoredByte) (m n : Memory) (q : Place) → HasMapOf m n → byte_at n q ≡ byte_at m q →
    byte_at (stored n ss) q ≡ byte_at (stored m ss) q
stored_agrees [] m n q h e = e
stored_agrees (s ∷ ss) m n q h e = stored_agrees ss _ _ q (map_poked m n (linear_of m.a20 s.address)
    (linear_of n.a20 s.address) s.byte s.byte h) (poke_agrees m n s.address s.byte q h e)

poked_place : (m : Memory) (a v : ℕ) (f : FarAddress) → byte_place (poke m a v) f ≡ byte_place m f
poked_place m a v f =
    let s = poke-shaped m a v in
    place-windows m (poke m a v) (linear_of (poke m a v).a20 f) s.windows
    ∙ ap (λ (b : Bool). place m (linear_of b f)) s.a20

stored_sets : (ss : List StoredByte) (m n : Memory) (P : FarAddress → Place) (q : Place) → HasMapOf m n →
    ((f : FarAddress) → byte_place m f ≡ P f) → Contains (map P (map (λ (s : StoredByte). s.address) ss)) q →
    byte_at (stored n ss) q ≡ byte_at (stored m ss) q
stored_sets [] m n P q h places (k, lt, e) = absurd (omega arith)
stored_sets (s ∷ ss) m n P q h places (zero, lt, e) =
    stored_agrees ss _ _ q (map_poked m n (linear_of m.a20 s.address) (linear_of n.a20 s.address) s.byte s.byte h)
    (poke_set m n s.address s.byte q h (places s.address ∙ e))
stored_sets (s ∷ ss) m n P q h places (suc k, lt, e) =
    let moved : (f : FarAddress) → byte_place (poke m (linear_of m.a20 s.address) s.byte) f ≡ P f =
    λ f. poked_place m (linear_of m.a20 s.address) s.byte f ∙ places f in
    stored_sets ss _ _ P q (map_poked m n (linear_of m.a20 s.address) (linear_of n.a20 s.address) s.byte s.byte h) moved
    (k, omega arith, e)

-- ---- as a program reads

-- stores leave an address at its place
stored_place : (ss : List StoredByte) (m : Memory) (f : FarAddress) → byte_place (stored m ss) f ≡ byte_place m f
stored_place [] m f = refl
stored_place (s ∷ ss) m f = stored_place ss (poke m (linear_of m.a20 s.address) s.byte) f
    ∙ poked_place m (linear_of m.a20 s.address) s.byte f

-- both read one byte where both have one at the place
read_at : (ss : List StoredByte) (m n : Memory) (f : FarAddress) → HasMapOf m n →
    byte_at (stored n ss) (byte_place m f) ≡ byte_at (stored m ss) (byte_place m f) →
    seen (stored n ss) f ≡ seen (stored m ss) f
unfolding peek
read_at ss m n f h e =
    ap (byte_at (stored n ss)) (stored_place ss n f ∙ place_same m n h f) ∙ e
    ∙ sym (ap (byte_at (stored m ss)) (stored_place ss m f))

-- what both read before, both read after the stores
pub seen_agrees : (ss : List StoredByte) (m n : Memory) (f : FarAddress) → HasMapOf m n → seen n f ≡ seen m f →
    seen (stored n ss) f ≡ seen (stored m ss) f
unfolding peek
seen_agrees ss m n f h e = read_at ss m n f h (stored_agrees ss m n (byte_place m f) h
    (sym (ap (byte_at n) (place_same m n h f)) ∙ e))

-- both read one byte where one was stored
pub seen_stored : (ss : List StoredByte) (m n : Memory) (f : FarAddress) → HasMapOf m n →
    Contains (map (byte_place m) (map (λ (s : StoredByte). s.address) ss)) (byte_place m f) →
    seen (stored n ss) f ≡ seen (stored m ss) f
seen_stored ss m n f h c = read_at ss m n f h (stored_sets ss m n (byte_place m) (byte_place m f) h (λ g. refl) c)

-- both read one byte at an address whose place is that of one at which they do
pub seen_among : (m n : Memory) (f : FarAddress) → HasMapOf m n → (fs : List FarAddress) →
    All (λ (g : FarAddress). seen n g ≡ seen m g) fs → Contains (map (byte_place m) fs) (byte_place m f) →
    seen n f ≡ seen m f
unfolding peek
seen_among m n f h [] a (k, lt, e) = absurd (omega arith)
seen_among m n f h (g ∷ fs) a (zero, lt, e) =
    let P : FarAddress → Type 0 = λ x. seen n x ≡ seen m x in
    ap (byte_at n) (place_same m n h f ∙ sym e ∙ sym (place_same m n h g)) ∙ All-head P g fs a ∙ ap (byte_at m) e
seen_among m n f h (g ∷ fs) a (suc k, lt, e) =
    let P : FarAddress → Type 0 = λ x. seen n x ≡ seen m x in
    seen_among m n f h fs (All-tail P g fs a) (k, omega arith, e)
