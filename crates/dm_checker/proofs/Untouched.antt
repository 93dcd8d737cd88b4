-- A step that touches nothing that matters: memory still shows what was kept, and nothing is found.
use Rattle.std.proofs.Common.{◌≡◌, ◌≢◌, ℕ, ◌+◌, ◌-◌, ◌*◌, ◌/◌, ◌%◌, ◌<◌, Bool, true, false, not, nat_lt, List, [], ◌∷◌, map, get_or, Option, Some, None, refl, sym, ◌∙◌, ap, subst, arith}
use Rattle.std.specs.Prelude.{◌==◌, ◌&&◌, ◌||◌, if◌then◌else◌, is_some, slice_index_or, IfSome, All}
use Rattle.std.specs.List.{list_any}
use Rattle.std.proofs.lemmas.Bool.{false≢true}
use Rattle.std.proofs.lemmas.Bool.Decides.{nat_tests}
use Rattle.std.proofs.lemmas.List.Elements.{All-nil, All-cons, All-head, All-tail}
use Rattle.dm_pool.specs.declared.extent.Extent.{Extent}
use Rattle.dm_pool.specs.Blocks.{Blocks, IsLive}
use Rattle.dm_space.specs.declared.place.Place.{Place}
use Rattle.dm_space.specs.declared.place.Place.TheVariants.{Low, Page, Rom, Nothing}
use Rattle.dm_space.specs.Memory.{Memory, IsPage, place, shown, peek, byte_at}
use Rattle.dm_space.specs.Places.{IsShaped}
use Rattle.dm_space.specs.EightBytes.{little}
use Rattle.dm_space.proofs.Places.{peek-place, place-windows}
use Rattle.dm_touches.specs.declared.elements.FarAddress.{FarAddress}
use Rattle.dm_touches.specs.Elements.{linear_of, byte_place, bytes_of}
use Rattle.dm_touches.specs.Laws.{KeepsOthers}
use Rattle.dm_checker.specs.declared.arena_copy.HeaderCopy.{HeaderCopy}
use Rattle.dm_checker.specs.declared.arena_copy.Broken.{Broken}
use Rattle.dm_checker.specs.declared.arena_copy.ArenaCopy.{ArenaCopy}
use Rattle.dm_checker.specs.ArenaCopy.{IsBits, IsHeaderCopy, IsBrokenIn, IsArenaCopy}
use Rattle.dm_checker.specs.inner.ArenaCopy.{IsSeen}
use Rattle.dm_touches.specs.declared.elements.Elements.{Elements}
use Rattle.dm_checker.specs.Unfound.{is_free_of, is_at, is_high, keeps_writes, is_write_unfound}
use Rattle.dm_checker.specs.inner.Unfound.{FindsNothing}
use Rattle.dm_checker.proofs.Unfound.{and_left, and_right, not_false, are_all, elements_all}

-- ---- places

low_injective : (a b : ℕ) → Low a ≡ Low b → a ≡ b
low_injective a b e = cc

shown_low : (o : Option ℕ) (k a : ℕ) → shown o k ≡ Low a → ⊥
shown_low None k a e = cc
shown_low (Some page) k a e = cc

low_by : (w : Option ℕ) (k r a b : ℕ) (c d e f g h : Bool) → (if c then Low b else if d then Nothing else if e then
    Low b else if f then shown w k else if g then Rom r else if h then Low b else Nothing) ≡ Low a → b ≡ a
low_by w k r a b true d e f g h x = low_injective b a x
low_by w k r a b false true e f g h x = absurd (cc)
low_by w k r a b false false true f g h x = low_injective b a x
low_by w k r a b false false false true g h x = absurd (shown_low w k a x)
low_by w k r a b false false false false true h x = absurd (cc)
low_by w k r a b false false false false false true x = low_injective b a x
low_by w k r a b false false false false false false x = absurd (cc)

-- only the address itself has its place in RAM
at_low : (m : Memory) (a b : ℕ) → place m b ≡ Low a → b ≡ a
unfolding place
at_low m a b x = low_by (slice_index_or m.windows ((b - 0xE0000) / 0x4000) None) ((b - 0xE0000) % 0x4000)
    (b - 0xF0000) a b (nat_lt b 0xC0000) (nat_lt b 0xD0000) (nat_lt b 0xE0000) (nat_lt b 0xF0000) (nat_lt b 0x100000)
    (nat_lt b 0x10FFF0) x

page_by : (m : Memory) (b p k : ℕ) (c d e : Bool) (q : Place) → (if c then Low b else if d then Nothing else if e then
    Low b else q) ≡ Page p k → e ≡ true → ⊥
page_by m b p k true d e q x t = cc
page_by m b p k false true e q x t = cc
page_by m b p k false false true q x t = cc
page_by m b p k false false false q x t = absurd (false≢true t)

-- no page is below the frame
no_page : (m : Memory) (b p k : ℕ) → b < 0xE0000 → place m b ≡ Page p k → ⊥
unfolding place
no_page m b p k less x = (let low : nat_lt b 0xE0000 ≡ true = grind (arith, nat_tests) in
    page_by m b p k (nat_lt b 0xC0000) (nat_lt b 0xD0000) (nat_lt b 0xE0000) _ x low)

-- where a write goes of which nothing is found
data Goes (m : Memory) (xs : List HeaderCopy) (a : ℕ) : Type 0 where
  to_ram : place m a ≡ Low a → Goes m xs a
  to_page : (p k : ℕ) → place m a ≡ Page p k → list_any is_high xs ≡ false → Goes m xs a

page_shown : (m : Memory) (xs : List HeaderCopy) (a k : ℕ) (o : Option ℕ) → place m a ≡ shown o k →
    (is_some o && not (list_any is_high xs)) ≡ true → Goes m xs a
page_shown m xs a k None x e = absurd (false≢true e)
page_shown m xs a k (Some p) x e = to_page p k x (not_false _ e)

abbrev PlaceBy : Memory → ℕ → Bool → Bool → Bool → Bool → Bool → Bool → Place
PlaceBy m a c d e f g h = if c then Low a else if d then Nothing else if e then Low a else if f then
    shown (slice_index_or m.windows ((a - 0xE0000) / 0x4000) None) ((a - 0xE0000) % 0x4000) else if g then
    Rom (a - 0xF0000) else if h then Low a else Nothing

goes_by : (m : Memory) (xs : List HeaderCopy) (a : ℕ) (c d e f g h : Bool) → place m a ≡ PlaceBy m a c d e f g h →
    (if c then true else if d then false else if e then true else if f then
    is_some (slice_index_or m.windows ((a - 0xE0000) / 0x4000) None) && not (list_any is_high xs) else not g &&
    h) ≡ true → Goes m xs a
goes_by m xs a true d e f g h x t = to_ram x
goes_by m xs a false true e f g h x t = absurd (false≢true t)
goes_by m xs a false false true f g h x t = to_ram x
goes_by m xs a false false false true g h x t =
    page_shown m xs a _ (slice_index_or m.windows ((a - 0xE0000) / 0x4000) None) x t
goes_by m xs a false false false false true h x t = absurd (false≢true t)
goes_by m xs a false false false false false true x t = to_ram x
goes_by m xs a false false false false false false x t = absurd (false≢true t)

goes : (m : Memory) (xs : List HeaderCopy) (a : ℕ) → keeps_writes m xs a ≡ true → Goes m xs a
unfolding place
goes m xs a t = goes_by m xs a (nat_lt a 0xC0000) (nat_lt a 0xD0000) (nat_lt a 0xE0000) (nat_lt a 0xF0000)
    (nat_lt a 0x100000) (nat_lt a 0x10FFF0) refl t

-- ---- a header that is not written to

not_high : (h : ℕ) → nat_lt 0xDFFF h ≡ false → (k : ℕ) → k < 5 → 16 * h + k < 0xE0000
not_high h e k less = (let low : h < 0xE000 = grind (arith, nat_tests) in omega (arith, low, less))

other_paragraph : (h a k : ℕ) → (h == a / 16) ≡ false → k < 5 → 16 * h + k ≡ a → ⊥
other_paragraph h a k e less same =
    let quotient : a / 16 ≡ h = omega (arith, same, less) in
    let equal : (h == a / 16) ≡ true = grind (arith, nat_tests) in
    false≢true (sym e ∙ equal)

apart : (m : Memory) (xs : List HeaderCopy) (x : HeaderCopy) (a k : ℕ) →
    (list_any is_high xs ≡ false → is_high x ≡ false) →
    (x.header.segment == a / 16) ≡ false → k < 5 → Goes m xs a → place m a ≢ place m (16 * x.header.segment + k)
apart m xs x a k low other less (to_ram here) same = other_paragraph x.header.segment a k other less
    (at_low m a (16 * x.header.segment + k) (sym same ∙ here))
apart m xs x a k low other less (to_page p n here none) same =
    no_page m (16 * x.header.segment + k) p n (not_high x.header.segment (low none) k less) (sym same ∙ here)

or_left : (a b : Bool) → (a || b) ≡ false → a ≡ false
or_left true b e = e
or_left false b e = refl

or_right : (a b : Bool) → (a || b) ≡ false → b ≡ false
or_right true b e = (let z : true ≡ false = e in cc)
or_right false b e = e

-- x is among the headers ys that are left of xs
record IsLeft (xs ys : List HeaderCopy) : Type 0 where
  low : list_any is_high xs ≡ false → list_any is_high ys ≡ false
  other : (a : ℕ) → list_any (is_at a) xs ≡ false → list_any (is_at a) ys ≡ false

left_tail : (xs : List HeaderCopy) (y : HeaderCopy) (ys : List HeaderCopy) → IsLeft xs (y ∷ ys) → IsLeft xs ys
left_tail xs y ys l = record {
  low = λ e. or_right (is_high y) (list_any is_high ys) (l.low e);
  other = λ a e. or_right (is_at a y) (list_any (is_at a) ys) (l.other a e);
}

-- none of the bytes that are written is at the place of a byte of the header
all_apart : (m : Memory) (xs : List HeaderCopy) (y : HeaderCopy) (ys : List HeaderCopy) (k : ℕ) → IsLeft xs (y ∷ ys) →
    k < 5 → (fs : List FarAddress) → are_all (is_write_unfound m xs) m.a20 fs ≡ true →
    All (λ (f : FarAddress). byte_place m f ≢ place m (16 * y.header.segment + k)) fs
all_apart m xs y ys k l less [] e = All-nil (λ (g : FarAddress). byte_place m g ≢ place m (16 * y.header.segment + k))
all_apart m xs y ys k l less (f ∷ fs) e =
    let a = linear_of m.a20 f in
    let here : is_write_unfound m xs a ≡ true = and_left (is_write_unfound m xs a) _ e in
    let free : list_any (is_at a) xs ≡ false = not_false _ (and_right (keeps_writes m xs a) _ here) in
    let at : is_at a y ≡ false = or_left (is_at a y) (list_any (is_at a) ys) (l.other a free) in
    let other : (y.header.segment == a / 16) ≡ false = or_right (is_free_of a y) (y.header.segment == a / 16) at in
    All-cons (λ (g : FarAddress). byte_place m g ≢ place m (16 * y.header.segment + k)) f fs
    (apart m xs y a k (λ none. or_left (is_high y) (list_any is_high ys) (l.low none)) other less
    (goes m xs a (and_left (keeps_writes m xs a) _ here)))
    (all_apart m xs y ys k l less fs (and_right (is_write_unfound m xs a) _ e))

same_byte : (m n : Memory) (xs : List HeaderCopy) (y : HeaderCopy) (ys : List HeaderCopy) (fs : List FarAddress) →
    KeepsOthers m n fs → are_all (is_write_unfound m xs) m.a20 fs ≡ true → IsLeft xs (y ∷ ys) → (k : ℕ) → k < 5 →
    peek n (16 * y.header.segment + k) ≡ peek m (16 * y.header.segment + k)
same_byte m n xs y ys fs keeps e l k less =
    let a = 16 * y.header.segment + k in
    peek-place n a ∙ ap (byte_at n) (place-windows m n a keeps.shape.windows)
    ∙ keeps.kept (place m a) (all_apart m xs y ys k l less fs e) ∙ sym (peek-place m a)

five_same : (f g : ℕ → ℕ) → f 0 ≡ g 0 → f 1 ≡ g 1 → f 2 ≡ g 2 → f 3 ≡ g 3 → f 4 ≡ g 4 →
    map f (0 ∷ 1 ∷ 2 ∷ 3 ∷ 4 ∷ []) ≡ map g (0 ∷ 1 ∷ 2 ∷ 3 ∷ 4 ∷ [])
five_same f g a b c d e = cc

bits_kept : (m n : Memory) (h bits : ℕ) → ((k : ℕ) → k < 5 → peek n (16 * h + k) ≡ peek m (16 * h + k)) →
    IsBits m h bits → IsBits n h bits
bits_kept m n h bits same x = record {
  is = x.is ∙ ap little (five_same (λ k. peek m (16 * h + k)) (λ k. peek n (16 * h + k)) (sym (same 0 (omega arith)))
      (sym (same 1 (omega arith))) (sym (same 2 (omega arith))) (sym (same 3 (omega arith)))
      (sym (same 4 (omega arith))));
  bytes = λ k less. (let F : ℕ → Type 0 = λ v. v < 256 in subst F (sym (same k less)) (x.bytes k less));
}

headers_kept : (m n : Memory) (xs ys : List HeaderCopy) (fs : List FarAddress) → KeepsOthers m n fs →
    are_all (is_write_unfound m xs) m.a20 fs ≡ true → IsLeft xs ys → All (IsHeaderCopy m) ys → All (IsHeaderCopy n) ys
headers_kept m n xs [] fs keeps e l w = All-nil (IsHeaderCopy n)
headers_kept m n xs (y ∷ ys) fs keeps e l w =
    All-cons (IsHeaderCopy n) y ys
    (bits_kept m n y.header.segment y.bits (same_byte m n xs y ys fs keeps e l) (All-head (IsHeaderCopy m) y ys w))
    (headers_kept m n xs ys fs keeps e (left_tail xs y ys l) (All-tail (IsHeaderCopy m) y ys w))

-- ---- memory still shows what was kept

live_kept : (s t : Blocks) (block : ℕ) → t.places ≡ s.places → IsLive s block → IsLive t block
live_kept s t block e x = (x.0, (x.1.0, ap (λ (p : List (Option Extent)). get_or p block None) e ∙ x.1.1))

page_kept : (m n : Memory) → IsShaped m n → (page : ℕ) → IsPage m page → IsPage n page
page_kept m n s page x = (live_kept m.blocks n.blocks page s.places x.0, s.page_sizes page ∙ x.1)

if_page : (m n : Memory) → IsShaped m n → (o : Option ℕ) → IfSome o (IsPage m) → IfSome o (IsPage n)
if_page m n s None x = tt
if_page m n s (Some page) x = page_kept m n s page x

pages_kept : (m n : Memory) → IsShaped m n → (k : ℕ) → IfSome (slice_index_or m.windows k None) (IsPage m) →
    IfSome (slice_index_or n.windows k None) (IsPage n)
pages_kept m n s k x =
    let F : List (Option ℕ) → Type 0 = λ ws. IfSome (slice_index_or ws k None) (IsPage n) in
    subst F (sym s.windows) (if_page m n s (slice_index_or m.windows k None) x)

broken_none : (m : Memory) (o : Option Broken) → o ≡ None → IsBrokenIn m o
broken_none m None e = tt
broken_none m (Some b) e = absurd (cc)

pub seen_unfound : (upper : Bool) (m n : Memory) (w : ArenaCopy) (rs ws : Elements) → IsArenaCopy upper m w →
    ((k : ℕ) → IfSome (slice_index_or m.windows k None) (IsPage m)) → KeepsOthers m n (bytes_of ws) →
    FindsNothing m w rs ws → IsSeen upper n w
seen_unfound upper m n w rs ws x pages keeps c =
    let all : IsLeft w.headers.items w.headers.items = record { low = λ e. e; other = λ a e. e } in
    record {
      setting = sym x.setting;
      windows = keeps.shape.windows ∙ sym x.windows;
      pages = λ k. pages_kept m n keeps.shape k (pages k);
      headers = headers_kept m n w.headers.items w.headers.items (bytes_of ws) keeps
          (elements_all (is_write_unfound m w.headers.items) m.a20 ws c.writes) all x.headers;
      there = broken_none n w.broken c.whole;
    }
