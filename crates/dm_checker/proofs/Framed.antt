-- The places of headers: windows matter in the frame alone.
use Rattle.std.proofs.Common.{◌≡◌, ℕ, ◌+◌, ◌-◌, ◌*◌, ◌/◌, ◌%◌, ◌<◌, ◌≤◌, ◌⊎◌, inl, inr, Bool, true, false, nat_lt, List, length, get_or, Option, Some, None, refl, sym, ◌∙◌, ap, ap₂, arith}
use Rattle.std.proofs.lemmas.Bool.{false≢true}
use Rattle.std.proofs.lemmas.Bool.Decides.{nat_tests}
use Rattle.std.proofs.lemmas.List.{get_or_default}
use Rattle.std.specs.Prelude.{if◌then◌else◌, slice_index_or, is_some, get_or, ◌&&◌, IfSome, IsTrue}
use Rattle.dm_pool.specs.declared.extent.Extent.{Extent}
use Rattle.dm_pool.specs.Blocks.{Blocks, IsLive}
use Rattle.dm_space.specs.declared.place.Place.{Place}
use Rattle.dm_space.specs.declared.place.Place.TheVariants.{Low, Page, Rom, Nothing}
use Rattle.dm_space.specs.Memory.{Memory, place, byte_at, shown, page_bytes}
use Rattle.dm_space.proofs.Places.{peek-place}
use Rattle.dm_findings.specs.declared.finding.Contents.{Contents}
use Rattle.dm_checker.specs.Headers.{contents, shown_at, is_live, is_there}
use Rattle.dm_checker.specs.inner.ArenaCopy.{contents_by, IsKept}

-- ---- the map

pub in_frame : (m : Memory) (h k : ℕ) → 0xE000 ≤ h → h ≤ 0xEFFF → k < 16 →
    place m (16 * h + k) ≡ shown (slice_index_or m.windows ((h - 0xE000) / 0x400) None) ((h - 0xE000) % 0x400 * 16 + k)
unfolding place
in_frame m h k low high small =
    let a : nat_lt (16 * h + k) 0xC0000 ≡ false = grind (arith, nat_tests) in
    let b : nat_lt (16 * h + k) 0xD0000 ≡ false = grind (arith, nat_tests) in
    let c : nat_lt (16 * h + k) 0xE0000 ≡ false = grind (arith, nat_tests) in
    let d : nat_lt (16 * h + k) 0xF0000 ≡ true = grind (arith, nat_tests) in
    let window : (16 * h + k - 0xE0000) / 0x4000 ≡ (h - 0xE000) / 0x400 = omega arith in
    let offset : (16 * h + k - 0xE0000) % 0x4000 ≡ (h - 0xE000) % 0x400 * 16 + k = omega arith in
    rw (a, b, c, d) (ap₂ (λ (w o : ℕ). shown (slice_index_or m.windows w None) o) window offset)

below_frame : (S T : Memory) (a : ℕ) → a < 0xE0000 → place T a ≡ place S a
unfolding place
below_frame S T a h = (let c : nat_lt a 0xE0000 ≡ true = grind (arith, nat_tests) in rw c refl)

above_frame : (S T : Memory) (a : ℕ) → 0xF0000 ≤ a → place T a ≡ place S a
unfolding place
above_frame S T a h = (let d : nat_lt a 0xF0000 ≡ false = grind (arith, nat_tests) in rw d refl)

pub outside : (S T : Memory) (h k : ℕ) → (h < 0xE000) ⊎ (0xEFFF < h) → k < 16 →
    place T (16 * h + k) ≡ place S (16 * h + k)
outside S T h k (inl low) small = below_frame S T (16 * h + k) (omega arith)
outside S T h k (inr high) small = above_frame S T (16 * h + k) (omega arith)

-- ---- whether a place is there

there_either : (m : Memory) (b : Bool) (p q : Place) → is_there m p ≡ true → is_there m q ≡ true →
    is_there m (if b then p else q) ≡ true
there_either m true p q h k = h
there_either m false p q h k = k

shown_there : (m n : Memory) (w : Option ℕ) (k : ℕ) → IfSome w (λ page. is_live n.blocks page ≡ true) →
    is_there n (shown w k) ≡ true
shown_there m n None k h = refl
shown_there m n (Some page) k h = h

-- each place of S is one of n's, if what its windows show is
pub there_by_windows : (m n : Memory) (a : ℕ) → ((k : ℕ) → IfSome (slice_index_or m.windows k None)
    (λ page. is_live n.blocks page ≡ true)) → is_there n (place m a) ≡ true
unfolding place
there_by_windows m n a pages =
    there_either n (nat_lt a 0xC0000) (Low a) _ refl (
    there_either n (nat_lt a 0xD0000) Nothing _ refl (
    there_either n (nat_lt a 0xE0000) (Low a) _ refl (
    there_either n (nat_lt a 0xF0000) _ _ (shown_there m n _ _ (pages ((a - 0xE0000) / 0x4000))) (
    there_either n (nat_lt a 0x100000) (Rom (a - 0xF0000)) _ refl (
    there_either n (nat_lt a 0x10FFF0) (Low a) Nothing refl refl)))))

there_below : (S n : Memory) (a : ℕ) → a < 0xE0000 → is_there n (place S a) ≡ true
unfolding place
there_below S n a h =
    let c : nat_lt a 0xE0000 ≡ true = grind (arith, nat_tests) in
    rw c (there_either n (nat_lt a 0xC0000) (Low a) _ refl (there_either n (nat_lt a 0xD0000) Nothing
    (Low a) refl refl))

there_above : (S n : Memory) (a : ℕ) → 0xF0000 ≤ a → is_there n (place S a) ≡ true
unfolding place
there_above S n a h =
    let d : nat_lt a 0xF0000 ≡ false = grind (arith, nat_tests) in
    rw d (
    there_either n (nat_lt a 0xC0000) (Low a) _ refl (
    there_either n (nat_lt a 0xD0000) Nothing _ refl (
    there_either n (nat_lt a 0xE0000) (Low a) _ refl (
    there_either n (nat_lt a 0x100000) (Rom (a - 0xF0000)) _ refl (
    there_either n (nat_lt a 0x10FFF0) (Low a) Nothing refl refl)))))

outside_there : (S n : Memory) (h : ℕ) → (h < 0xE000) ⊎ (0xEFFF < h) → is_there n (place S (16 * h)) ≡ true
outside_there S n h (inl low) = there_below S n (16 * h) (omega arith)
outside_there S n h (inr high) = there_above S n (16 * h) (omega arith)

some_is : {A : Type 0} (o : Option A) (a : A) → o ≡ Some a → is_some o ≡ true
some_is o a e = ap is_some e

pub live_true : (s : Blocks) (block : ℕ) → IsLive s block → is_live s block ≡ true
live_true s block h =
    let small : nat_lt block 576 ≡ true = (let less : block < 576 = h.0 in grind (arith, nat_tests)) in
    ap₂ (λ (a b : Bool). a && b) small (some_is (get_or s.places block None) h.1.0 h.1.1)

-- ---- what is at the places of a header

same_contents_by : (f g : ℕ → ℕ) → f 0 ≡ g 0 → f 1 ≡ g 1 → f 2 ≡ g 2 → f 3 ≡ g 3 → f 4 ≡ g 4 → contents f ≡ contents g
same_contents_by f g a b c d e = cc

pub contents_by_five : (f g : ℕ → ℕ) → ((k : ℕ) → k < 5 → f k ≡ g k) → contents f ≡ contents g
contents_by_five f g h = same_contents_by f g (h 0 (omega arith)) (h 1 (omega arith)) (h 2 (omega arith))
    (h 3 (omega arith)) (h 4 (omega arith))

pub kept_outside : (S T : Memory) (h : ℕ) (c : Contents) → (h < 0xE000) ⊎ (0xEFFF < h) → c ≡ shown_at T h →
    IsKept S T h (Some c)
kept_outside S T h c far is = (
  outside_there S T h far,
  is ∙ contents_by_five _ _ (λ k less. peek-place T (16 * h + k) ∙ ap (byte_at T) (outside S T h k far (omega arith))),
)

nothing_there : (S T : Memory) (h k : ℕ) → 0xE000 ≤ h → h ≤ 0xEFFF → k < 16 →
    slice_index_or S.windows ((h - 0xE000) / 0x400) None ≡ None → place S (16 * h + k) ≡ Nothing
nothing_there S T h k low high small e = in_frame S h k low high small
    ∙ ap (λ (w : Option ℕ). shown w ((h - 0xE000) % 0x400 * 16 + k)) e

pub kept_nothing : (S T : Memory) (h : ℕ) (c : Contents) → 0xE000 ≤ h → h ≤ 0xEFFF →
    slice_index_or S.windows ((h - 0xE000) / 0x400) None ≡ None → c ≡ record {
      signature = 0xFF;
      owner = 0xFFFF;
      size = 0xFFFF;
    } → IsKept S T h (Some c)
kept_nothing S T h c low high e is =
    let zero-more : 16 * h ≡ 16 * h + 0 = omega arith in (
      ap (is_there T) (ap (place S) zero-more ∙ nothing_there S T h 0 low high (omega arith) e),
      is ∙ contents_by_five (λ k. 0xFF) (λ k. byte_at T (place S (16 * h + k)))
          (λ k less. sym (ap (byte_at T) (nothing_there S T h k low high (omega arith) e))),
    )

page_there : (S : Memory) (h k block : ℕ) → 0xE000 ≤ h → h ≤ 0xEFFF → k < 16 →
    slice_index_or S.windows ((h - 0xE000) / 0x400) None ≡ Some block → place S (16 * h + k)
    ≡ Page block ((h - 0xE000) % 0x400 * 16 + k)
page_there S h k block low high small e = in_frame S h k low high small
    ∙ ap (λ (w : Option ℕ). shown w ((h - 0xE000) % 0x400 * 16 + k)) e

page_first : (S T : Memory) (h block : ℕ) → 0xE000 ≤ h → h ≤ 0xEFFF →
    slice_index_or S.windows ((h - 0xE000) / 0x400) None ≡ Some block → is_there T (place S (16 * h))
    ≡ is_live T.blocks block
page_first S T h block low high e =
    let zero-more : 16 * h ≡ 16 * h + 0 = omega arith in
    ap (is_there T) (ap (place S) zero-more ∙ page_there S h 0 block low high (omega arith) e)

pub kept_page : (S T : Memory) (h block : ℕ) (c : Contents) → 0xE000 ≤ h → h ≤ 0xEFFF →
    slice_index_or S.windows ((h - 0xE000) / 0x400) None ≡ Some block → IsLive T.blocks block →
    c ≡ contents_by (page_bytes T block) ((h - 0xE000) % 0x400 * 16) → IsKept S T h (Some c)
kept_page S T h block c low high e live is = (
  page_first S T h block low high e ∙ live_true T.blocks block live,
  is ∙ contents_by_five _ _ (λ k less. sym (ap (byte_at T) (page_there S h k block low high (omega arith) e))),
)

live_false : (s : Blocks) (block : ℕ) (o : Option Extent) → get_or s.places block None ≡ o → (IsLive s block → ⊥) →
    (b : Bool) → nat_lt block 576 ≡ b → is_live s block ≡ false
live_false s block o e dead false t = ap (λ (x : Bool). x && is_some (get_or s.places block None)) t
live_false s block None e dead true t = ap₂ (λ (x y : Bool). x && y) t (ap is_some e)
live_false s block (Some p) e dead true t = absurd (dead (grind (arith, nat_tests), (p, e)))

pub kept_freed : (S T : Memory) (h block : ℕ) → 0xE000 ≤ h → h ≤ 0xEFFF →
    slice_index_or S.windows ((h - 0xE000) / 0x400) None ≡ Some block → (IsLive T.blocks block → ⊥) → IsKept S T h None
kept_freed S T h block low high e dead = page_first S T h block low high e
    ∙ live_false T.blocks block _ refl dead _ refl

-- ---- what a window shows, as it was read

pub window_of : (S : Memory) (windows : List (Option ℕ)) (i : ℕ) (d o : Option ℕ) → windows ≡ S.windows →
    length windows ≡ 4 → i < 4 → get_or windows i d ≡ o → slice_index_or S.windows i None ≡ o
window_of S windows i d o same four less is = ap (λ (ws : List (Option ℕ)). get_or ws i None) (sym same)
    ∙ sym (get_or_default windows i d None (omega arith)) ∙ is

pub no_block : (o : Option ℕ) → ((block : ℕ) → o ≡ Some block → ⊥) → o ≡ None
no_block None none = refl
no_block (Some block) none = absurd (none block refl)

pub not_live : (r : Bool) (live : Type 0) → r ≡ false → (live → IsTrue r) → live → ⊥
not_live r live off tells h = (let on : r ≡ true = tells h in absurd (false≢true (sym off ∙ on)))
