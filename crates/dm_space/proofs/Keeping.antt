-- Pages that windows show stay as large as they are while other blocks come, go and change, and while bytes are written
use Rattle.std.specs.Prelude.{IfSome, MatchOption}
use Rattle.std.specs.Bool.{MatchBool}
use Rattle.std.proofs.Common.{◌≡◌, ◌≢◌, ℕ, suc, zero, ◌+◌, ◌≤◌, Bool, true, false, List, [], ◌∷◌, Option, Some, None, ◌++◌, take, drop, length, get_or, set, refl, sym, ◌∙◌, ap, subst, arith}
use Rattle.std.proofs.Math.Bool.{true≢false}
use Rattle.std.proofs.lemmas.Option.{none-some, same_Some}
use Rattle.std.proofs.lemmas.List.{get_or-set_other, length-set, length-take, length-take-le, take_all, drop_all, append-nil, append_assoc}
use Rattle.std.specs.List.{length_refill}
use Rattle.dm_region.specs.Parts.{part, with_part}
use Rattle.dm_region.proofs.Bytes.{length-with_part}
use Rattle.dm_region.proofs.Parts.{part_in}
use Rattle.dm_pool.specs.declared.extent.Extent.{Extent}
use Rattle.dm_pool.specs.Gaps.{first_empty, lowest}
use Rattle.dm_pool.specs.Blocks.{Blocks, placed, taken, without, with_block, with_content, at_base, moved_bytes, resized_from, new_base, resized, fitted, zeros}
use Rattle.dm_pool.specs.Stored.{Stored, refit, zeros_of}
use Rattle.dm_pool.proofs.Blocks.{vacant, part_length, refilled}
use Rattle.dm_space.specs.Memory.{Memory, IsHeld, Fits, IsPage, page_bytes, with_blocks}
use Rattle.dm_space.specs.inner.Memory.{held}
use Rattle.dm_space.specs.Unseen.{shows}
use Rattle.dm_space.proofs.Unseen.{shows-at}

if_some : (o : Option ℕ) (P Q : ℕ → Type 0) → ((p : ℕ) → o ≡ Some p → P p → Q p) → IfSome o P → IfSome o Q
if_some None P Q f h = tt
if_some (Some p) P Q f h = f p refl h

-- the pages that are shown are still there among the new blocks
same_pages : (m : Memory) (b : Blocks) → ((k page : ℕ) → get_or m.windows k None ≡ Some page → IsPage m page →
    IsPage (with_blocks m b) page) → Fits m → Fits (with_blocks m b)
same_pages m b keep f = record {
  low_length = f.low_length;
  windows_are_four = f.windows_are_four;
  pages_there = λ k. if_some (get_or m.windows k None) (λ page. IsPage m page) (λ page. IsPage (with_blocks m b) page)
      (keep k) (f.pages_there k);
}

-- a block with another number is as it was
other_page : (m : Memory) (i : ℕ) (o : Option Extent) (xs : List ℕ) (u page : ℕ) → page ≢ i → IsPage m page
    → IsPage (with_blocks m (record {
      units = u;
      places = set m.blocks.places i o;
      contents = set m.blocks.contents i xs;
    })) page
other_page m i o xs u page ne p =
    let there = p.0.1 in (
      (p.0.0, (there.0, get_or-set_other m.blocks.places i page o None ne ∙ there.1)),
      ap length (get_or-set_other m.blocks.contents i page xs [] ne) ∙ p.1,
    )

-- a block that no window shows may be any, or gone
pub hidden_fits : (m : Memory) (i : ℕ) (o : Option Extent) (xs : List ℕ) → shows m.windows i ≡ false → Fits m
    → Fits (with_blocks m (record {
      units = m.blocks.units;
      places = set m.blocks.places i o;
      contents = set m.blocks.contents i xs;
    }))
hidden_fits m i o xs hidden f =
    same_pages m _ (λ k page e p. other_page m i o xs m.blocks.units page
    (λ s. true≢false (sym (shows-at m.windows k page e) ∙ (ap (shows m.windows) s ∙ hidden))) p) f

placed_fits : (m : Memory) (u : ℕ) (o p : Option ℕ) (i : ℕ) (t : Blocks) → first_empty m.blocks.places ≡ o →
    placed m.blocks u o p ≡ Some (i, t) → Fits m → Fits (with_blocks m t)
placed_fits m u None p i t e h f = absurd (none-some (i, t) h)
placed_fits m u (Some k) None i t e h f = absurd (none-some (i, t) h)
placed_fits m u (Some k) (Some p) i t e h f =
    let new : Blocks = with_block m.blocks k (record { base = p; units = u }) (zeros u) in
    let same = same_Some (k, new) (i, t) h in
    let free = vacant m.blocks.places k e in
    subst (λ (x : Blocks). Fits (with_blocks m x)) (ap (λ (x : ℕ × Blocks). x.1) same)
    (same_pages m new
    (λ j page _ q. other_page m k (Some (record { base = p; units = u })) (zeros u) m.blocks.units page
    (λ s. none-some q.0.1.0 (sym (ap (λ n. get_or m.blocks.places n None) s ∙ free.1) ∙ q.0.1.1)) q) f)

pub taken_fits : (m : Memory) (u i : ℕ) (t : Blocks) → taken m.blocks u ≡ Some (i, t) → Fits m → Fits (with_blocks m t)
taken_fits m u i t h f = placed_fits m u (first_empty m.blocks.places) (lowest m.blocks.places m.blocks.units u) i t
    refl h f

at_base_fits : (m : Memory) (i u : ℕ) (p : Option ℕ) (t : Blocks) → at_base m.blocks i u p ≡ Some t →
    shows m.windows i ≡ false → Fits m → Fits (with_blocks m t)
at_base_fits m i u None t h hidden f = absurd (none-some t h)
at_base_fits m i u (Some p) t h hidden f =
    let new : Blocks = with_block m.blocks i (record { base = p; units = u })
    (fitted (get_or m.blocks.contents i []) u) in
    subst (λ (x : Blocks). Fits (with_blocks m x)) (same_Some new t h) (hidden_fits m i (Some (record {
      base = p;
      units = u;
    })) (fitted (get_or m.blocks.contents i []) u) hidden f)

at_fits : (m : Memory) (i u : ℕ) (o : Option Extent) (t : Blocks) → resized_from m.blocks i u o ≡ Some t →
    shows m.windows i ≡ false → Fits m → Fits (with_blocks m t)
at_fits m i u None t h hidden f = absurd (none-some t h)
at_fits m i u (Some b) t h hidden f = at_base_fits m i u (new_base m.blocks i b u) t h hidden f

pub resized_fits : (m : Memory) (i u : ℕ) (t : Blocks) → resized m.blocks i u ≡ Some t → shows m.windows i ≡ false →
    Fits m → Fits (with_blocks m t)
resized_fits m i u t h hidden f = at_fits m i u (get_or m.blocks.places i None) t h hidden f

content_length : (cs : List (List ℕ)) (i page : ℕ) (xs : List ℕ) → length xs ≡ length (get_or cs i []) →
    length (get_or (set cs i xs) page []) ≡ length (get_or cs page [])
content_length [] i page xs e = refl
content_length (c ∷ cs) zero zero xs e = e
content_length (c ∷ cs) zero (suc page) xs e = refl
content_length (c ∷ cs) (suc i) zero xs e = refl
content_length (c ∷ cs) (suc i) (suc page) xs e = content_length cs i page xs e

-- any block may have other bytes, as many as before
pub content_fits : (m : Memory) (i : ℕ) (xs : List ℕ) → length xs ≡ length (page_bytes m i) → Fits m →
    Fits (with_blocks m (with_content m.blocks i xs))
content_fits m i xs e f = same_pages m _ (λ k page _ p. (p.0, content_length m.blocks.contents i page xs e ∙ p.1)) f

pub refit_length : (old new : List ℕ) → length (refit old new) ≡ length old
refit_length old new = sym (length_refill (length old) old new refl)

-- what holds of the memory over what a store holds
module _ (s : Stored) (windows : List (Option ℕ)) (a20 : Bool) where
  abbrev m : Memory
  m = (held s windows a20).memory

  with_store : (t : Stored) (b : Blocks) → t ≡ record s { blocks = b } → Fits (with_blocks m b) →
      IsHeld (held s windows a20) → IsHeld (held t windows a20)
  with_store t b e f h = subst (λ (x : Stored). IsHeld (held x windows a20)) (sym e) (record {
    fits = f;
    scratch_length = h.scratch_length;
  })

  as_before : (t : Stored) → t ≡ s → IsHeld (held s windows a20) → IsHeld (held t windows a20)
  as_before t e h = subst (λ (x : Stored). IsHeld (held x windows a20)) (sym e) h

  pub held_given : (t : Stored) (i : ℕ) → t ≡ record s { blocks = without s.blocks i } → shows windows i ≡ false →
      IsHeld (held s windows a20) → IsHeld (held t windows a20)
  held_given t i e hidden h = with_store t (without s.blocks i) e (hidden_fits m i None [] hidden h.fits) h

  pub held_taken : (t : Stored) (o : Option ℕ) (u : ℕ)
      → MatchOption o ((taken s.blocks u ≡ None) × (t ≡ s)) (λ i. (taken s.blocks u ≡ Some (i, t.blocks)) ×
      (t ≡ record s { blocks = t.blocks }))
      → IsHeld (held s windows a20) → IsHeld (held t windows a20)
  held_taken t None u e h = as_before t e.1 h
  held_taken t (Some i) u e h = with_store t t.blocks e.1 (taken_fits m u i t.blocks e.0 h.fits) h

  pub held_resized : (t : Stored) (b : Bool) (i u : ℕ)
      → MatchBool b ((resized s.blocks i u ≡ Some t.blocks) × (t ≡ record s { blocks = t.blocks }))
      ((resized s.blocks i u ≡ None) × (t ≡ s))
      → shows windows i ≡ false → IsHeld (held s windows a20) → IsHeld (held t windows a20)
  held_resized t true i u e hidden h = with_store t t.blocks e.1 (resized_fits m i u t.blocks e.0 hidden h.fits) h
  held_resized t false i u e hidden h = as_before t e.1 h

  pub held_lent : (i : ℕ) (w : List ℕ) → IsHeld (held s windows a20) →
      IsHeld (held (record s { blocks = with_content s.blocks i (refit (get_or s.blocks.contents i []) w) }) windows
      a20)
  held_lent i w h = record {
    fits = content_fits m i (refit (get_or s.blocks.contents i []) w) (refit_length
        (get_or s.blocks.contents i []) w) h.fits;
    scratch_length = h.scratch_length;
  }

  pub held_scratch : (t : Stored) (xs : List ℕ) → t ≡ record s { scratch = xs } → length xs ≡ length s.scratch →
      IsHeld (held s windows a20) → IsHeld (held t windows a20)
  held_scratch t xs e same h = subst (λ (x : Stored). IsHeld (held x windows a20)) (sym e) (record {
    fits = h.fits;
    scratch_length = same ∙ h.scratch_length;
  })

  pub held_low : (t : Stored) (xs : List ℕ) → t ≡ record s { low = xs } → length xs ≡ length s.low →
      IsHeld (held s windows a20) → IsHeld (held t windows a20)
  held_low t xs e same h =
      let fits : Fits (held (record s { low = xs }) windows a20).memory =
      record {
        low_length = same ∙ h.fits.low_length;
        windows_are_four = h.fits.windows_are_four;
        pages_there = h.fits.pages_there;
      } in
      subst (λ (x : Stored). IsHeld (held x windows a20)) (sym e) (record {
        fits = fits;
        scratch_length = h.scratch_length;
      })

  pub held_content : (t : Stored) (i : ℕ) (xs : List ℕ) → t ≡ record s { blocks = with_content s.blocks i xs } →
      length xs ≡ length (get_or s.blocks.contents i []) → IsHeld (held s windows a20) → IsHeld (held t windows a20)
  held_content t i xs e same h = with_store t (with_content s.blocks i xs) e (content_fits m i xs same h.fits) h

  pub held_moved : (t : Stored) (i from j to len : ℕ) → t ≡ record s { blocks = moved_bytes s.blocks i from j to len } →
      from + len ≤ length (get_or s.blocks.contents i []) → to + len ≤ length (get_or s.blocks.contents j [])
      → IsHeld (held s windows a20) → IsHeld (held t windows a20)
  held_moved t i from j to len e a b h =
      let copied = part (get_or s.blocks.contents i []) from len in
      with_store t (moved_bytes s.blocks i from j to len) e
      (content_fits m j (with_part (get_or s.blocks.contents j []) to len copied)
      (length-with_part (get_or s.blocks.contents j []) copied to len b
      (part_length (get_or s.blocks.contents i []) from len a)) h.fits) h

-- the scratch bytes after a loan of the first at + n of them, through which ws were written to the n from `at` on
pub front_lent : (old now new ws : List ℕ) (at n : ℕ) → at + n ≤ length old → length ws ≡ n → now ≡ take (at + n) old →
    length new ≡ length now → new ≡ with_part now at n ws
    → refit old (take (at + n) new) ≡ with_part old at n ws
front_lent old now new ws at n fits long e same h =
    let m = at + n in
    let count : length new ≡ m = same ∙ ap length e ∙ length-take-le m old fits in
    let first : take at (take m old) ≡ take at old = part_in old 0 m 0 at (omega arith) in
    let behind : drop m (take m old) ≡ [] = drop_all m (take m old) (omega (arith, length-take m old)) in
    let written : new ≡ take at old ++ ws
    = h ∙ ap (λ (l : List ℕ). with_part l at n ws) e ∙ ap (λ (l : List ℕ). l ++ (ws ++ drop m (take m old))) first
    ∙ ap (λ (l : List ℕ). take at old ++ (ws ++ l)) behind ∙ ap (λ (l : List ℕ). take at old
    ++ l) (append-nil ws) in
    let all : new ++ drop m old ≡ with_part old at n ws = ap (λ (l : List ℕ). l ++ drop m old) written
    ∙ append_assoc (take at old) ws (drop m old) in
    ap (refit old) (take_all m new (omega (arith, count)))
    ∙ ap (λ k. take (length old) (new ++ drop k old)) count
    ∙ ap (take (length old)) all
    ∙ take_all (length old) (with_part old at n ws) (omega (arith, length-with_part old ws at n fits long))

-- bytes behind which zeros stand, read at any index
pub byte_behind : (xs : List ℕ) (n at : ℕ) → get_or (xs ++ zeros_of n) at 0 ≡ get_or xs at 0
unfolding zeros_of
byte_behind [] zero at = refl
byte_behind [] (suc n) zero = refl
byte_behind [] (suc n) (suc at) = byte_behind [] n at
byte_behind (x ∷ xs) n zero = refl
byte_behind (x ∷ xs) n (suc at) = byte_behind xs n at

-- a word written through the loan of a slice
pub word_lent : (old now : List ℕ) (at a b : ℕ) → now ≡ old → refit old (set (set now at a) (at + 1) b)
    ≡ set (set old at a) (at + 1) b
word_lent old now at a b e =
    refilled (length old) old (set (set now at a) (at + 1) b) (length-set (set now at a) (at + 1) b
    ∙ length-set now at a ∙ ap length e)
    ∙ ap (λ (xs : List ℕ). set (set xs at a) (at + 1) b) e
