-- Places of paragraphs: which are bytes of RAM, and which are bytes of a page that a window shows.
use Rattle.std.proofs.Common.{◌≡◌, ℕ, zero, suc, ◌+◌, ◌-◌, ◌*◌, ◌/◌, ◌%◌, ◌<◌, ◌≤◌, Bool, true, false, nat_lt, nat_eq, List, [], ◌∷◌, Option, Some, None, refl, sym, ◌∙◌, ap, subst, arith, ◌⊎◌, inl, inr}
use Rattle.std.proofs.lemmas.Bool.Decides.{nat_tests}
use Rattle.std.specs.Prelude.{if◌then◌else◌, slice_index_or}
use Rattle.dm_space.specs.declared.place.Place.{Place}
use Rattle.dm_space.specs.declared.place.Place.TheVariants.{Low, Page, Rom, Nothing}
use Rattle.dm_space.specs.Memory.{Memory, place, shown}
use Rattle.dm_blocks.specs.inner.Occupied.{is_shown, first_showing, frame_paragraph}

bool_cases : (b : Bool) → (b ≡ true) ⊎ (b ≡ false)
bool_cases true = inl refl
bool_cases false = inr refl

-- a value that is chosen by a test
chosen : (t : Bool) (p q r : Place) (X : Type 0) → (t ≡ true → p ≡ r → X) → (t ≡ false → q ≡ r → X) →
    (if t then p else q) ≡ r → X
chosen true p q r X f g e = f refl e
chosen false p q r X f g e = g refl e

low-injective : (a b : ℕ) → Low a ≡ Low b → a ≡ b
low-injective a b e = cc

pub page-first : (p k q i : ℕ) → Page p k ≡ Page q i → p ≡ q
page-first p k q i e = cc

pub page-second : (p k q i : ℕ) → Page p k ≡ Page q i → k ≡ i
page-second p k q i e = cc

page-same : (p k q i : ℕ) → p ≡ q → k ≡ i → Page p k ≡ Page q i
page-same p k q i e f = cc

pub low≢page : (a p k : ℕ) → Low a ≡ Page p k → ⊥
low≢page a p k e = cc

rom≢page : (a p k : ℕ) → Rom a ≡ Page p k → ⊥
rom≢page a p k e = cc

nothing≢page : (p k : ℕ) → Nothing ≡ Page p k → ⊥
nothing≢page p k e = cc

page≢low : (a p k : ℕ) → Page p k ≡ Low a → ⊥
page≢low a p k e = cc

rom≢low : (a b : ℕ) → Rom a ≡ Low b → ⊥
rom≢low a b e = cc

nothing≢low : (b : ℕ) → Nothing ≡ Low b → ⊥
nothing≢low b e = cc

shown≢low : (o : Option ℕ) (k l : ℕ) → shown o k ≡ Low l → ⊥
shown≢low None k l e = nothing≢low l e
shown≢low (Some p) k l e = page≢low l p k e

-- a byte of RAM is at its own address
pub low-own : (m : Memory) (a l : ℕ) → place m a ≡ Low l → a ≡ l
unfolding place
low-own m a l e =
    chosen (nat_lt a 0xC0000) (Low a) _ (Low l) (a ≡ l) (λ _. low-injective a l) (λ _.
    chosen (nat_lt a 0xD0000) Nothing _ (Low l) (a ≡ l) (λ _ x. absurd (nothing≢low l x)) (λ _.
    chosen (nat_lt a 0xE0000) (Low a) _ (Low l) (a ≡ l) (λ _. low-injective a l) (λ _.
    chosen (nat_lt a 0xF0000) (shown (slice_index_or m.windows ((a - 0xE0000) / 0x4000) None) ((a - 0xE0000) % 0x4000))
    _ (Low l) (a ≡ l) (λ _ x. absurd (shown≢low (slice_index_or m.windows ((a - 0xE0000) / 0x4000) None)
    ((a - 0xE0000) % 0x4000) l x)) (λ _.
    chosen (nat_lt a 0x100000) (Rom (a - 0xF0000)) _ (Low l) (a ≡ l) (λ _ x. absurd (rom≢low _ l x)) (λ _.
    chosen (nat_lt a 0x10FFF0) (Low a) Nothing (Low l) (a ≡ l) (λ _. low-injective a l)
    (λ _ x. absurd (nothing≢low l x))))))) e

-- a page at a paragraph is shown by one of the four windows, and the paragraph is one of its own
pub record IsFramed (m : Memory) (block offset : ℕ) : Type 0 where
  pub window : ℕ
  pub small : window < 4
  pub shows : slice_index_or m.windows window None ≡ Some block
  pub within : offset < 0x4000
  pub aligned : offset % 16 ≡ 0

shown-block : (o : Option ℕ) (k p l : ℕ) → shown o k ≡ Page p l → o ≡ Some p
shown-block None k p l e = absurd (nothing≢page p l e)
shown-block (Some q) k p l e = ap Some (page-first q k p l e)

shown-offset : (o : Option ℕ) (k p l : ℕ) → shown o k ≡ Page p l → k ≡ l
shown-offset None k p l e = absurd (nothing≢page p l e)
shown-offset (Some q) k p l e = page-second q k p l e

framed-window : (m : Memory) (h block offset : ℕ) → 0xE0000 ≤ 16 * h → 16 * h < 0xF0000 →
    shown (slice_index_or m.windows ((16 * h - 0xE0000) / 0x4000) None) ((16 * h - 0xE0000) % 0x4000)
    ≡ Page block offset → IsFramed m block offset
framed-window m h block offset low high e =
    let o : (16 * h - 0xE0000) % 0x4000 ≡ offset =
    shown-offset (slice_index_or m.windows ((16 * h - 0xE0000) / 0x4000) None) ((16 * h - 0xE0000) % 0x4000) block
    offset e in
    record {
      window = (16 * h - 0xE0000) / 0x4000;
      small = omega arith;
      shows = shown-block (slice_index_or m.windows ((16 * h - 0xE0000) / 0x4000) None) ((16 * h - 0xE0000) % 0x4000)
          block offset e;
      within = omega arith;
      aligned = omega arith;
    }

pub page-framed : (m : Memory) (h block offset : ℕ) → place m (16 * h) ≡ Page block offset → IsFramed m block offset
unfolding place
page-framed m h block offset e =
    let r : Place = Page block offset in
    chosen (nat_lt (16 * h) 0xC0000) (Low (16 * h)) _ r (IsFramed m block offset)
    (λ _ x. absurd (low≢page _ block offset x)) (λ _.
    chosen (nat_lt (16 * h) 0xD0000) Nothing _ r (IsFramed m block offset) (λ _ x. absurd (nothing≢page block offset x))
    (λ _.
    chosen (nat_lt (16 * h) 0xE0000) (Low (16 * h)) _ r (IsFramed m block offset)
    (λ _ x. absurd (low≢page _ block offset x)) (λ above.
    chosen (nat_lt (16 * h) 0xF0000) (shown (slice_index_or m.windows ((16 * h - 0xE0000) / 0x4000) None)
    ((16 * h - 0xE0000) % 0x4000)) _ r (IsFramed m block offset) (λ below. framed-window m h block offset
    (grind (arith, nat_tests)) (grind (arith, nat_tests))) (λ _.
    chosen (nat_lt (16 * h) 0x100000) (Rom (16 * h - 0xF0000)) _ r (IsFramed m block offset)
    (λ _ x. absurd (rom≢page _ block offset x)) (λ _.
    chosen (nat_lt (16 * h) 0x10FFF0) (Low (16 * h)) Nothing r (IsFramed m block offset)
    (λ _ x. absurd (low≢page _ block offset x)) (λ _ x. absurd (nothing≢page block offset x))))))) e

-- the first window that shows a block
test-same : (a b : ℕ) → a ≡ b → nat_eq a b ≡ true
test-same a b e = grind (arith, nat_tests)

test-true : (a b : ℕ) → nat_eq a b ≡ true → a ≡ b
test-true a b e = grind (arith, nat_tests)

some-injective : (a b : ℕ) → Some a ≡ Some b → a ≡ b
some-injective a b e = cc

none≢some : (b : ℕ) → None ≡ Some b → ⊥
none≢some b e = cc

shown-is : (w : Option ℕ) (b : ℕ) → is_shown w b ≡ true → w ≡ Some b
shown-is None b e = absurd (let x : false ≡ true = e in cc)
shown-is (Some s) b e = ap Some (test-true s b e)

is-shown : (w : Option ℕ) (b : ℕ) → w ≡ Some b → is_shown w b ≡ true
is-shown None b e = absurd (none≢some b e)
is-shown (Some s) b e = test-same s b (some-injective s b e)

first-here : (w : Option ℕ) (ws : List (Option ℕ)) (b : ℕ) → is_shown w b ≡ true → first_showing (w ∷ ws) b ≡ 0
first-here w ws b t = rw t refl

first-later : (w : Option ℕ) (ws : List (Option ℕ)) (b : ℕ) → is_shown w b ≡ false →
    first_showing (w ∷ ws) b ≡ suc (first_showing ws b)
first-later w ws b t = rw t refl

record IsFirst (ws : List (Option ℕ)) (b : ℕ) (i : ℕ) : Type 0 where
  shows : slice_index_or ws (first_showing ws b) None ≡ Some b
  below : first_showing ws b ≤ i

first-now : (w : Option ℕ) (ws : List (Option ℕ)) (i b : ℕ) → is_shown w b ≡ true → IsFirst (w ∷ ws) b i
first-now w ws i b t =
    let z : first_showing (w ∷ ws) b ≡ 0 = first-here w ws b t in
    let F : ℕ → Type 0 = λ x. slice_index_or (w ∷ ws) x None ≡ Some b in
    record { shows = subst F (sym z) (shown-is w b t); below = omega arith }

first-at : (ws : List (Option ℕ)) (i b : ℕ) → slice_index_or ws i None ≡ Some b → IsFirst ws b i
first-at [] i b e = absurd (none≢some b e)
first-at (w ∷ ws) zero b e = first-now w ws zero b (is-shown w b e)
first-at (w ∷ ws) (suc i) b e = elim (bool_cases (is_shown w b)) [
  | inl t ↦ first-now w ws (suc i) b t
  | inr t ↦ (let r = first-at ws i b e in
      let z : first_showing (w ∷ ws) b ≡ suc (first_showing ws b) = first-later w ws b t in
      let F : ℕ → Type 0 = λ x. slice_index_or (w ∷ ws) x None ≡ Some b in
      let more = r.below in
      record { shows = subst F (sym z) r.shows; below = omega arith })
]

-- the paragraphs of pages in the frame
pub paragraph-small : (m : Memory) (b k : ℕ) → IsFramed m b k → frame_paragraph m b k < 0x1000
paragraph-small m b k f =
    let r = first-at m.windows f.window b f.shows in
    let below = r.below in
    let small = f.small in
    let within = f.within in
    omega arith

sixteenths : (a b k l : ℕ) → k < 0x4000 → l < 0x4000 → 0x400 * a + k / 16 ≡ 0x400 * b + l / 16 → a ≡ b
sixteenths a b k l u v e = omega arith

offsets : (a b k l : ℕ) → k % 16 ≡ 0 → l % 16 ≡ 0 → a ≡ b → 0x400 * a + k / 16 ≡ 0x400 * b + l / 16 → k ≡ l
offsets a b k l u v s e = omega arith

pub paragraph-apart : (m : Memory) (b k c l : ℕ) → IsFramed m b k → IsFramed m c l →
    frame_paragraph m b k ≡ frame_paragraph m c l → Page b k ≡ Page c l
paragraph-apart m b k c l f g e =
    let r = first-at m.windows f.window b f.shows in
    let q = first-at m.windows g.window c g.shows in
    let same : first_showing m.windows b ≡ first_showing m.windows c = sixteenths _ _ k l f.within g.within e in
    let blocks : b ≡ c = some-injective b c (sym r.shows ∙ ap (λ x. slice_index_or m.windows x None) same ∙ q.shows) in
    page-same b k c l blocks (offsets _ _ k l f.aligned g.aligned same e)
