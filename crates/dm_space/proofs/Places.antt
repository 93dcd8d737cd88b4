-- Laws of places for the layers above: what a write keeps, and which bytes of paragraphs share a place.
use Rattle.std.proofs.Common.{◌≡◌, ◌≢◌, ℕ, suc, zero, ◌+◌, ◌-◌, ◌*◌, ◌/◌, ◌%◌, ◌<◌, ◌≤◌, Bool, true, false, nat_lt, List, [], ◌∷◌, Option, Some, None, length, get_or, set, refl, sym, ◌∙◌, ap, subst, arith, ◌⊎◌, inl, inr, get_or-set_same, get_or-set_other}
use Rattle.std.proofs.lemmas.Bool.{cases_lt}
use Rattle.std.proofs.lemmas.Bool.Decides.{nat_tests}
use Rattle.std.proofs.lemmas.List.{length-set, ext_get_or}
use Rattle.std.specs.Prelude.{IfSome, if◌then◌else◌, slice_index_or}
use Rattle.dm_space.specs.declared.place.Place.{Place}
use Rattle.dm_space.specs.declared.place.Place.TheVariants.{Low, Page, Rom, Nothing}
use Rattle.dm_space.specs.Memory.{Memory, IsPage, Fits, IsThere, linear, place, peek, poke, shown, byte_at, with_byte, page_bytes}
use Rattle.dm_space.specs.Places.{IsWritable, IsShaped}
use Rattle.dm_space.specs.inner.Places.{IsPoked}
use Rattle.dm_space.specs.inner.SideBySide.{shift}

-- the byte that a read gives is the one at the place
pub peek-place : (m : Memory) (a : ℕ) → peek m a ≡ byte_at m (place m a)
unfolding peek
peek-place m a = refl

-- places depend on the windows alone
pub place-windows : (S T : Memory) (a : ℕ) → T.windows ≡ S.windows → place T a ≡ place S a
unfolding place
place-windows S T a e = rw e refl

pub place-shaped : (S T : Memory) → IsShaped S T → (a : ℕ) → place T a ≡ place S a
place-shaped S T s a = place-windows S T a s.windows

pub shaped-same : (S : Memory) → IsShaped S S
shaped-same S = record {
  a20 = refl;
  windows = refl;
  ram_size = refl;
  units = refl;
  places = refl;
  page_count = refl;
  page_sizes = λ page. refl;
}

pub shaped-then : (S T U : Memory) → IsShaped S T → IsShaped T U → IsShaped S U
shaped-then S T U s t = record {
  a20 = t.a20 ∙ s.a20;
  windows = t.windows ∙ s.windows;
  ram_size = t.ram_size ∙ s.ram_size;
  units = t.units ∙ s.units;
  places = t.places ∙ s.places;
  page_count = t.page_count ∙ s.page_count;
  page_sizes = λ page. t.page_sizes page ∙ s.page_sizes page;
}

set-other : (xs : List ℕ) (i k v : ℕ) → k ≢ i → get_or (set xs i v) k 0 ≡ get_or xs k 0
set-other xs i k v ne = rw get_or-set_other refl

-- a list of pages with one byte of one page set
page_set-length : (pages : List (List ℕ)) (p i v q : ℕ) →
    length (get_or (set pages p (set (get_or pages p []) i v)) q []) ≡ length (get_or pages q [])
page_set-length [] p i v q = refl
page_set-length (xs ∷ pages) zero i v zero = length-set xs i v
page_set-length (xs ∷ pages) zero i v (suc q) = refl
page_set-length (xs ∷ pages) (suc p) i v zero = refl
page_set-length (xs ∷ pages) (suc p) i v (suc q) = page_set-length pages p i v q

page_set-same : (pages : List (List ℕ)) (p i v : ℕ) → p < length pages → i < length (get_or pages p []) →
    get_or (get_or (set pages p (set (get_or pages p []) i v)) p []) i 0 ≡ v
page_set-same [] p i v h j = absurd (omega arith)
page_set-same (xs ∷ pages) zero i v h j = rw (get_or-set_same xs i v 0 j) refl
page_set-same (xs ∷ pages) (suc p) i v h j = page_set-same pages p i v (omega arith) j

page_set-other : (pages : List (List ℕ)) (p i v q k : ℕ) → (q ≡ p → k ≢ i) →
    get_or (get_or (set pages p (set (get_or pages p []) i v)) q []) k 0 ≡ get_or (get_or pages q []) k 0
page_set-other [] p i v q k ne = refl
page_set-other (xs ∷ pages) zero i v zero k ne = set-other xs i k v (ne refl)
page_set-other (xs ∷ pages) zero i v (suc q) k ne = refl
page_set-other (xs ∷ pages) (suc p) i v zero k ne = refl
page_set-other (xs ∷ pages) (suc p) i v (suc q) k ne = page_set-other pages p i v q k (λ e. ne (ap suc e))

-- a page that has a byte is one of the list
pub page-there : (pages : List (List ℕ)) (p k : ℕ) → k < length (get_or pages p []) → p < length pages
page-there [] p k h = absurd (omega arith)
page-there (xs ∷ pages) zero k h = omega arith
page-there (xs ∷ pages) (suc p) k h = let more = page-there pages p k h in omega arith

pub shaped-with : (S : Memory) (p : Place) (v : ℕ) → IsShaped S (with_byte S p v)
shaped-with S (Low a) v = record {
  a20 = refl;
  windows = refl;
  ram_size = length-set S.low a v;
  units = refl;
  places = refl;
  page_count = refl;
  page_sizes = λ page. refl;
}
shaped-with S (Page p k) v = record {
  a20 = refl;
  windows = refl;
  ram_size = refl;
  units = refl;
  places = refl;
  page_count = length-set S.blocks.contents p (set (page_bytes S p) k v);
  page_sizes = λ page. page_set-length S.blocks.contents p k v page;
}
shaped-with S (Rom k) v = shaped-same S
shaped-with S Nothing v = shaped-same S

written-with : (S : Memory) (p : Place) (v : ℕ) → IsThere S p → IsWritable p → byte_at (with_byte S p v) p ≡ v
written-with S (Low a) v h w = rw get_or-set_same refl
written-with S (Page p k) v h w = page_set-same S.blocks.contents p k v (page-there S.blocks.contents p k h.1) h.1
written-with S (Rom k) v h w = absurd w
written-with S Nothing v h w = absurd w

page-of : (p k q i : ℕ) → p ≡ q → k ≡ i → Page p k ≡ Page q i
page-of p k q i e f = cc

kept-with : (S : Memory) (p q : Place) (v : ℕ) → q ≢ p → byte_at (with_byte S p v) q ≡ byte_at S q
kept-with S (Low a) (Low b) v ne = set-other S.low a b v (λ e. ne (ap Low e))
kept-with S (Page p i) (Page q k) v ne = page_set-other S.blocks.contents p i v q k (λ e f. ne (page-of q k p i e f))
kept-with S (Low a) (Page q k) v ne = refl
kept-with S (Low a) (Rom k) v ne = refl
kept-with S (Low a) Nothing v ne = refl
kept-with S (Page p i) (Low b) v ne = refl
kept-with S (Page p i) (Rom k) v ne = refl
kept-with S (Page p i) Nothing v ne = refl
kept-with S (Rom i) q v ne = refl
kept-with S Nothing q v ne = refl

there-window : (m : Memory) (w : Option ℕ) (k : ℕ) → IfSome w (λ page. IsPage m page) → k < 0x4000 →
    IsThere m (shown w k)
there-window m None k e h = tt
there-window m (Some page) k e h = (e.0, omega (arith, e.1, h))

there-either : (m : Memory) (b : Bool) (p q : Place) → (b ≡ true → IsThere m p) → (b ≡ false → IsThere m q) →
    IsThere m (if b then p else q)
there-either m true p q h k = h refl
there-either m false p q h k = k refl

-- the place of an address is one of the memory's
pub there-place : (m : Memory) (a : ℕ) → Fits m → IsThere m (place m a)
unfolding place
there-place m a f =
    let n = f.low_length in
    there-either m (nat_lt a 0xC0000) (Low a) _ (λ h. grind (arith, nat_tests)) (λ _.
    there-either m (nat_lt a 0xD0000) Nothing _ (λ _. tt) (λ _.
    there-either m (nat_lt a 0xE0000) (Low a) _ (λ h. grind (arith, nat_tests)) (λ _.
    there-either m (nat_lt a 0xF0000) _ _ (λ _. there-window m _ _ (f.pages_there ((a - 0xE0000) / 0x4000))
    (omega arith)) (λ _.
    there-either m (nat_lt a 0x100000) (Rom (a - 0xF0000)) _ (λ h. grind (arith, nat_tests)) (λ _.
    there-either m (nat_lt a 0x10FFF0) (Low a) Nothing (λ h. grind (arith, nat_tests)) (λ _. tt))))))

-- a write keeps the map
pub poke-shaped : (m : Memory) (a v : ℕ) → IsShaped m (poke m a v)
unfolding poke
poke-shaped m a v = shaped-with m (place m a) v

-- a write told by places
pub poke-poked : (m : Memory) (a v : ℕ) → Fits m → IsPoked m a v (poke m a v)
unfolding poke
poke-poked m a v f = record {
  shape = shaped-with m (place m a) v;
  written = λ w. written-with m (place m a) v (there-place m a f) w;
  kept = λ p ne. kept-with m (place m a) p v ne;
}

pub poked-read : (S : Memory) (a v : ℕ) (T : Memory) → IsPoked S a v T → IsWritable (place S a) → peek T a ≡ v
poked-read S a v T p w = peek-place T a ∙ ap (byte_at T) (place-shaped S T p.shape a) ∙ p.written w

-- below 100000h neither A20 nor the wrap of offsets matters
pub linear-low : (a20 : Bool) (s o : ℕ) → s * 16 + o < 0x100000 → linear a20 s o ≡ s * 16 + o
linear-low true s o h = refl
linear-low false s o h = omega arith

-- below C0000h an address is its own place
pub place-low : (m : Memory) (a : ℕ) → a < 0xC0000 → place m a ≡ Low a
unfolding place
place-low m a h = grind (arith, nat_tests)

low-injective : (a b : ℕ) → Low a ≡ Low b → a ≡ b
low-injective a b e = cc

pub place-low-injective : (m : Memory) (a b : ℕ) → a < 0xC0000 → b < 0xC0000 → place m a ≡ place m b → a ≡ b
place-low-injective m a b h k e = low-injective a b (sym (place-low m a h) ∙ e ∙ place-low m b k)

-- a place is one where a paragraph can begin
abbrev IsAligned : Place → Type 0
IsAligned (Low a) = a % 16 ≡ 0
IsAligned (Page p k) = k % 16 ≡ 0
IsAligned (Rom k) = Unit {0}
IsAligned Nothing = Unit {0}

quotient-same : (m i : ℕ) → i < 16 → (16 * m + i) / 0x4000 ≡ (16 * m) / 0x4000
quotient-same m i small = omega arith

rest-more : (m i : ℕ) → i < 16 → (16 * m + i) % 0x4000 ≡ (16 * m) % 0x4000 + i
rest-more m i small = omega arith

test-same : (h i k : ℕ) → i < 16 → nat_lt (16 * h + i) (16 * k) ≡ nat_lt (16 * h) (16 * k)
test-same h i k small = elim (cases_lt h k) [ inl a ↦ grind (arith, nat_tests) | inr a ↦ grind (arith, nat_tests) ]

pub shown-shift : (o : Option ℕ) (k i : ℕ) → shown o (k + i) ≡ shift (shown o k) i
shown-shift None k i = refl
shown-shift (Some p) k i = refl

shown-aligned : (o : Option ℕ) (k : ℕ) → k % 16 ≡ 0 → IsAligned (shown o k)
shown-aligned None k e = tt
shown-aligned (Some p) k e = e

window-shift : (w : List (Option ℕ)) (h i : ℕ) → i < 16 → 0xE0000 ≤ 16 * h →
    shown (slice_index_or w ((16 * h + i - 0xE0000) / 0x4000) None) ((16 * h + i - 0xE0000) % 0x4000)
    ≡ shift (shown (slice_index_or w ((16 * h - 0xE0000) / 0x4000) None) ((16 * h - 0xE0000) % 0x4000)) i
window-shift w h i small high =
    let m = h - 0xE000 in
    let a : 16 * h + i - 0xE0000 ≡ 16 * m + i = omega arith in
    let b : 16 * h - 0xE0000 ≡ 16 * m = omega arith in
    rw (a, b, quotient-same m i small, rest-more m i small) (shown-shift _ _ i)

by-tests : (m : Memory) (h i : ℕ) → i < 16 → (a b c d e f : Bool) → nat_lt (16 * h) 0xC0000 ≡ a →
    nat_lt (16 * h) 0xD0000 ≡ b → nat_lt (16 * h) 0xE0000 ≡ c → nat_lt (16 * h) 0xF0000 ≡ d →
    nat_lt (16 * h) 0x100000 ≡ e → nat_lt (16 * h) 0x10FFF0 ≡ f → place m (16 * h + i) ≡ shift (place m (16 * h)) i
unfolding place
by-tests m h i small true b c d e f ea eb ec ed ee ef = rw (test-same h i 0xC000 small, ea) refl
by-tests m h i small false true c d e f ea eb ec ed ee ef = rw (
  test-same h i 0xC000 small,
  test-same h i 0xD000 small,
  ea,
  eb,
) refl
by-tests m h i small false false true d e f ea eb ec ed ee ef = rw (
  test-same h i 0xC000 small,
  test-same h i 0xD000 small,
  test-same h i 0xE000 small,
  ea,
  eb,
  ec,
) refl
by-tests m h i small false false false true e f ea eb ec ed ee ef = rw (
  test-same h i 0xC000 small,
  test-same h i 0xD000 small,
  test-same h i 0xE000 small,
  test-same h i 0xF000 small,
  ea,
  eb,
  ec,
  ed,
) (window-shift m.windows h i small (grind (arith, nat_tests)))
by-tests m h i small false false false false true f ea eb ec ed ee ef =
    (let low : 0xF0000 ≤ 16 * h = grind (arith, nat_tests) in rw (
      test-same h i 0xC000 small,
      test-same h i 0xD000 small,
      test-same h i 0xE000 small,
      test-same h i 0xF000 small,
      test-same h i 0x10000 small,
      ea,
      eb,
      ec,
      ed,
      ee,
    ) (ap Rom (omega arith)))
by-tests m h i small false false false false false true ea eb ec ed ee ef =
    rw (
      test-same h i 0xC000 small,
      test-same h i 0xD000 small,
      test-same h i 0xE000 small,
      test-same h i 0xF000 small,
      test-same h i 0x10000 small,
      test-same h i 0x10FFF small,
      ea,
      eb,
      ec,
      ed,
      ee,
      ef,
    ) refl
by-tests m h i small false false false false false false ea eb ec ed ee ef =
    rw (
      test-same h i 0xC000 small,
      test-same h i 0xD000 small,
      test-same h i 0xE000 small,
      test-same h i 0xF000 small,
      test-same h i 0x10000 small,
      test-same h i 0x10FFF small,
      ea,
      eb,
      ec,
      ed,
      ee,
      ef,
    ) refl

-- the bytes of a paragraph have places side by side
paragraph-shift : (m : Memory) (h i : ℕ) → i < 16 → place m (16 * h + i) ≡ shift (place m (16 * h)) i
paragraph-shift m h i small = by-tests m h i small _ _ _ _ _ _ refl refl refl refl refl refl

aligned-either : (b : Bool) (p q : Place) → IsAligned p → (b ≡ false → IsAligned q) → IsAligned (if b then p else q)
aligned-either true p q h k = h
aligned-either false p q h k = k refl

paragraph-aligned : (m : Memory) (h : ℕ) → IsAligned (place m (16 * h))
unfolding place
paragraph-aligned m h =
    aligned-either (nat_lt (16 * h) 0xC0000) (Low (16 * h)) _ (omega arith) (λ _.
    aligned-either (nat_lt (16 * h) 0xD0000) Nothing _ tt (λ _.
    aligned-either (nat_lt (16 * h) 0xE0000) (Low (16 * h)) _ (omega arith) (λ k.
    aligned-either (nat_lt (16 * h) 0xF0000) _ _ (shown-aligned _ _ (let high : 0xE0000 ≤ 16 * h =
    grind (arith, nat_tests) in omega arith)) (λ _.
    aligned-either (nat_lt (16 * h) 0x100000) (Rom (16 * h - 0xF0000)) _ tt (λ _.
    aligned-either (nat_lt (16 * h) 0x10FFF0) (Low (16 * h)) Nothing (omega arith) (λ _. tt))))))

shift-writable : (p : Place) (i : ℕ) → IsWritable p → IsWritable (shift p i)
shift-writable (Low a) i w = tt
shift-writable (Page p k) i w = tt
shift-writable (Rom a) i w = w
shift-writable Nothing i w = w

-- where a paragraph's first byte is kept, all of its bytes are
pub paragraph-writable : (m : Memory) (h i : ℕ) → i < 16 → IsWritable (place m (16 * h)) →
    IsWritable (place m (16 * h + i))
paragraph-writable m h i small w = subst IsWritable (sym (paragraph-shift m h i small))
    (shift-writable (place m (16 * h)) i w)

page-first : (p k q i : ℕ) → Page p k ≡ Page q i → p ≡ q
page-first p k q i e = cc

page-second : (p k q i : ℕ) → Page p k ≡ Page q i → k ≡ i
page-second p k q i e = cc

shift-apart : (p q : Place) (i j : ℕ) → i < 16 → j < 16 → IsAligned p → IsAligned q → IsWritable p →
    shift p i ≡ shift q j → (p ≡ q) × (i ≡ j)
shift-apart (Low a) (Low b) i j si sj ap' aq w e = (let x = low-injective (a + i) (b + j) e in
    (ap Low (omega arith), omega arith))
shift-apart (Page p k) (Page q l) i j si sj ap' aq w e = (let x = page-second p (k + i) q (l + j) e in let y =
    page-first p (k + i) q (l + j) e in (page-of p k q l y (omega arith), omega arith))
shift-apart (Low a) (Page q l) i j si sj ap' aq w e = absurd (cc)
shift-apart (Low a) (Rom l) i j si sj ap' aq w e = absurd (cc)
shift-apart (Low a) Nothing i j si sj ap' aq w e = absurd (cc)
shift-apart (Page p k) (Low a) i j si sj ap' aq w e = absurd (cc)
shift-apart (Page p k) (Rom l) i j si sj ap' aq w e = absurd (cc)
shift-apart (Page p k) Nothing i j si sj ap' aq w e = absurd (cc)
shift-apart (Rom k) q i j si sj ap' aq w e = absurd w
shift-apart Nothing q i j si sj ap' aq w e = absurd w

-- two paragraphs have no byte at one place, or they have the same place
pub paragraph-apart : (m : Memory) (h g i j : ℕ) → i < 16 → j < 16 → IsWritable (place m (16 * h)) →
    place m (16 * h + i) ≡ place m (16 * g + j) → (place m (16 * h) ≡ place m (16 * g)) × (i ≡ j)
paragraph-apart m h g i j si sj w e =
    shift-apart (place m (16 * h)) (place m (16 * g)) i j si sj (paragraph-aligned m h) (paragraph-aligned m g) w
    (sym (paragraph-shift m h i si) ∙ e ∙ paragraph-shift m g j sj)

pub poked-kept : (S : Memory) (a v : ℕ) (T : Memory) (c : ℕ) → IsPoked S a v T → place S c ≢ place S a →
    peek T c ≡ peek S c
poked-kept S a v T c p ne = peek-place T c ∙ ap (byte_at T) (place-shaped S T p.shape c) ∙ p.kept _ ne
    ∙ sym (peek-place S c)

nat-decide : (a b : ℕ) → (a ≡ b) ⊎ (a ≢ b)
nat-decide a b = elim (cases_lt a b) [
  | inl l ↦ inr (λ e. omega arith)
  | inr h ↦ elim (cases_lt b a) [ inl l ↦ inr (λ e. omega arith) | inr k ↦ inl (omega arith) ]
]

rom-injective : (a b : ℕ) → Rom a ≡ Rom b → a ≡ b
rom-injective a b e = cc

-- two places are one, or they are not
pub place-decide : (p q : Place) → (p ≡ q) ⊎ (p ≢ q)
place-decide (Low a) (Low b) = elim (nat-decide a b) [
  | inl e ↦ inl (ap Low e)
  | inr n ↦
      inr (λ e. n (low-injective a b e))
]
place-decide (Rom a) (Rom b) = elim (nat-decide a b) [
  | inl e ↦ inl (ap Rom e)
  | inr n ↦
      inr (λ e. n (rom-injective a b e))
]
place-decide (Page p k) (Page q i) = elim (nat-decide p q) [
  | inl e ↦ elim (nat-decide k i) [ inl f ↦ inl (page-of p k q i e f) | inr n ↦ inr (λ f. n (page-second p k q i f)) ]
  | inr n ↦ inr (λ f. n (page-first p k q i f))
]
place-decide Nothing Nothing = inl refl
place-decide (Low a) (Page q i) = inr (λ e. absurd (cc))
place-decide (Low a) (Rom b) = inr (λ e. absurd (cc))
place-decide (Low a) Nothing = inr (λ e. absurd (cc))
place-decide (Page p k) (Low b) = inr (λ e. absurd (cc))
place-decide (Page p k) (Rom b) = inr (λ e. absurd (cc))
place-decide (Page p k) Nothing = inr (λ e. absurd (cc))
place-decide (Rom a) (Low b) = inr (λ e. absurd (cc))
place-decide (Rom a) (Page q i) = inr (λ e. absurd (cc))
place-decide (Rom a) Nothing = inr (λ e. absurd (cc))
place-decide Nothing (Low b) = inr (λ e. absurd (cc))
place-decide Nothing (Page q i) = inr (λ e. absurd (cc))
place-decide Nothing (Rom b) = inr (λ e. absurd (cc))

-- memories of one shape are the same where they have the same byte at each place
pub memory-same : (S T U : Memory) → IsShaped S T → IsShaped S U → ((p : Place) → byte_at T p ≡ byte_at U p) → T ≡ U
memory-same S T U s t e =
    let low : T.low ≡ U.low = ext_get_or 0 T.low U.low (s.ram_size ∙ sym t.ram_size) (λ k h. e (Low k)) in
    let pages : T.blocks.contents ≡ U.blocks.contents = ext_get_or [] T.blocks.contents U.blocks.contents (s.page_count
    ∙ sym t.page_count) (λ p h. ext_get_or 0 (page_bytes T p) (page_bytes U p) (s.page_sizes p
    ∙ sym (t.page_sizes p)) (λ k j. e (Page p k))) in
    let units : T.blocks.units ≡ U.blocks.units = s.units ∙ sym t.units in
    let places : T.blocks.places ≡ U.blocks.places = s.places ∙ sym t.places in
    let windows : T.windows ≡ U.windows = s.windows ∙ sym t.windows in
    let a20 : T.a20 ≡ U.a20 = s.a20 ∙ sym t.a20 in
    λ i. record {
      low = low i;
      blocks = record { units = units i; places = places i; contents = pages i };
      windows = windows i;
      a20 = a20 i;
    }
