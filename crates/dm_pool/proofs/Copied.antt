-- Bytes copied between parts of a store
use Rattle.std.proofs.Common.{◌≡◌, Bool, ℕ, ◌+◌, ◌*◌, ◌≤◌, List, [], length, get_or, None, true, sym, ap, ◌∙◌, subst, inl, inr, ◌⊎◌, arith}
use Rattle.dm_region.specs.Holes.{Holed}
use Rattle.dm_region.specs.Parts.{part, with_part}
use Rattle.dm_region.proofs.Bytes.{length-with_part}
use Rattle.dm_pool.specs.declared.part.Part.{Part}
use Rattle.dm_pool.specs.declared.part.Part.TheVariants.{Low, Scratch, Block}
use Rattle.dm_pool.specs.Blocks.{Blocks, contents_of, with_content, IsLaid}
use Rattle.dm_pool.specs.FreeList.{AreBased}
use Rattle.dm_pool.specs.inner.Order.{Layout, blocks_in}
use Rattle.dm_pool.specs.Parts.{HasPart, part_bytes, with_part_bytes, part_copied}
use Rattle.dm_pool.specs.inner.Parts.{IsLaidOut, IsSpan}
use Rattle.dm_pool.specs.Stored.{Stored}
use Rattle.dm_pool.specs.inner.Stored.{IsStore, IsKept, IsListed, stored, low_part, scratch_part, pool_part}
use Rattle.dm_pool.proofs.Blocks.{part_length, refilled, content_of}
use Rattle.dm_region.proofs.Parts.{part_in, part_rewritten}
use Rattle.dm_pool.proofs.Stored.{is_used, lent, lent_length, lent_elsewhere, lent_whole, block_left, block_store, block_stored, same_stored}

pub laid_out : (l : Layout) (xs : List ℕ) (v : Stored) (p : Part) → stored xs l ≡ v → HasPart v p → IsLaidOut l p
laid_out l xs v Low e h = tt
laid_out l xs v Scratch e h = tt
laid_out l xs v (Block i) e h = (h.1.0, ap (λ (s : Stored). get_or s.blocks.places i None) e ∙ h.1.1)

module _ (xs : List ℕ) (l : Layout) (u : Bool) (s : IsStore xs l u) (laid : IsLaid l.units l.places) where
  -- a part lies within the region
  pub span_fits : (p : Part) (from n : ℕ) → IsSpan l p from n → from + n ≤ length xs
  span_fits Low from n h = omega (arith, s.whole, h.0, h.1)
  span_fits Scratch from n h = omega (arith, s.whole, h.0, h.1)
  span_fits (Block i) from n h = omega (arith, s.whole, laid.within i h.0 h.1, h.2, h.3)

  -- its bytes are those of the region there
  pub span_bytes : (p : Part) (from n : ℕ) → IsSpan l p from n → part_bytes (stored xs l) p ≡ part xs from n
  span_bytes Low from n h = ap (λ k. part xs k 0x110000) (sym h.0) ∙ ap (part xs from) (sym h.1)
  span_bytes Scratch from n h = ap (λ k. part xs k 0x200000) (sym h.0) ∙ ap (part xs from) (sym h.1)
  span_bytes (Block i) from n h =
      content_of l.places i h.0 (pool_part xs l.units) h.1
      ∙ part_in xs 0x310000 (l.units * 1024) (h.0.base * 1024) (h.0.units * 1024) (omega (arith, laid.within i h.0 h.1))
      ∙ ap (λ k. part xs k (h.0.units * 1024)) (sym h.2) ∙ ap (part xs from) (sym h.3)

  low_left : (w : List ℕ) → length w ≡ 0x110000 → IsStore (with_part xs 0 0x110000 w) l u ×
      (stored (with_part xs 0 0x110000 w) l ≡ with_part_bytes (stored xs l) Low w)
  low_left w e =
      let fits : 0 + 0x110000 ≤ length xs = omega (arith, s.whole) in
      let same : lent xs w 0 0x110000 fits ≡ with_part xs 0 0x110000 w =
      ap (with_part xs 0 0x110000) (refilled 0x110000 (part xs 0 0x110000) w e) in
      let pool = lent_elsewhere xs w 0 0x110000 fits 0x310000 (l.units * 1024) (inr (omega arith)) in
      subst (λ (ys : List ℕ). IsStore ys l u × (stored ys l ≡ with_part_bytes (stored xs l) Low w)) same (
        record {
          whole = lent_length xs w 0 0x110000 fits ∙ s.whole;
          listed = subst (IsListed u l) (sym pool) s.listed;
        },
        same_stored _ _ _ _ _ _ (lent_whole xs w 0 0x110000 fits e) (lent_elsewhere xs w 0 0x110000 fits 0x110000
            0x200000 (inr (omega arith))) (ap (blocks_in l) pool),
      )

  scratch_left : (w : List ℕ) → length w ≡ 0x200000 → IsStore (with_part xs 0x110000 0x200000 w) l u ×
      (stored (with_part xs 0x110000 0x200000 w) l ≡ with_part_bytes (stored xs l) Scratch w)
  scratch_left w e =
      let fits : 0x110000 + 0x200000 ≤ length xs = omega (arith, s.whole) in
      let same : lent xs w 0x110000 0x200000 fits ≡ with_part xs 0x110000 0x200000 w =
      ap (with_part xs 0x110000 0x200000) (refilled 0x200000 (part xs 0x110000 0x200000) w e) in
      let pool = lent_elsewhere xs w 0x110000 0x200000 fits 0x310000 (l.units * 1024) (inr (omega arith)) in
      subst (λ (ys : List ℕ). IsStore ys l u × (stored ys l ≡ with_part_bytes (stored xs l) Scratch w)) same (
        record {
          whole = lent_length xs w 0x110000 0x200000 fits ∙ s.whole;
          listed = subst (IsListed u l) (sym pool) s.listed;
        },
        same_stored _ _ _ _ _ _ (lent_elsewhere xs w 0x110000 0x200000 fits 0 0x110000 (inl (omega arith)))
            (lent_whole xs w 0x110000 0x200000 fits e) (ap (blocks_in l) pool),
      )

module _ (xs : List ℕ) (l : Layout) (s : IsStore xs l true) (laid : IsLaid l.units l.places) where
  block_is_left : AreBased l.places → (i from n : ℕ) (h : IsSpan l (Block i) from n) (w : List ℕ) → length w ≡ n →
      IsStore (with_part xs from n w) l true × (stored (with_part xs from n w) l
      ≡ with_part_bytes (stored xs l) (Block i) w)
  block_is_left based i from n h w e =
      let b = h.0 in
      let at = 0x310000 + b.base * 1024 in
      let size = b.units * 1024 in
      let same : block_left xs l i b w s laid based h.1 ≡ with_part xs from n w
      = ap (with_part xs at size) (refilled size (part xs at size) w (e ∙ h.3))
      ∙ ap (λ k. with_part xs k size w) (sym h.2) ∙ ap (λ k. with_part xs from k w) (sym h.3) in
      let old : get_or (contents_of l.places (pool_part xs l.units)) i [] ≡ part xs from n =
      span_bytes xs l true s laid (Block i) from n h in
      let long : length (get_or (contents_of l.places (pool_part xs l.units)) i []) ≡ n = ap length old
      ∙ part_length xs from n (span_fits xs l true s laid (Block i) from n h) in
      let whole = refilled (length (get_or (contents_of l.places (pool_part xs l.units)) i []))
      (get_or (contents_of l.places (pool_part xs l.units)) i []) w (e ∙ sym long) in
      let with_blocks : Blocks → Stored = λ k. record { low = low_part xs; scratch = scratch_part xs; blocks = k } in
      subst (λ (ys : List ℕ). IsStore ys l true × (stored ys l ≡ with_part_bytes (stored xs l) (Block i) w)) same (
        block_store xs l i b w s laid based h.1,
        block_stored xs l i b w s laid based h.1 ∙ ap with_blocks (ap (with_content
            (blocks_in l (pool_part xs l.units)) i) whole),
      )

module _ (xs : List ℕ) (l : Layout) (u : Bool) (s : IsStore xs l u) (laid : IsLaid l.units l.places) where
  -- as many bytes written over a part leave a store with those bytes in it
  pub span_left : AreBased l.places → (p : Part) (from n : ℕ) → IsSpan l p from n → (w : List ℕ) → length w ≡ n →
      IsStore (with_part xs from n w) l u × (stored (with_part xs from n w) l ≡ with_part_bytes (stored xs l) p w)
  span_left based Low from n h w e =
      subst (λ k. IsStore (with_part xs k n w) l u × (stored (with_part xs k n w) l
      ≡ with_part_bytes (stored xs l) Low w)) (sym h.0)
      (subst (λ k. IsStore (with_part xs 0 k w) l u × (stored (with_part xs 0 k w) l
      ≡ with_part_bytes (stored xs l) Low w)) (sym h.1) (low_left xs l u s laid w (e ∙ h.1)))
  span_left based Scratch from n h w e =
      subst (λ k. IsStore (with_part xs k n w) l u × (stored (with_part xs k n w) l
      ≡ with_part_bytes (stored xs l) Scratch w)) (sym h.0)
      (subst (λ k. IsStore (with_part xs 0x110000 k w) l u × (stored (with_part xs 0x110000 k w) l
      ≡ with_part_bytes (stored xs l) Scratch w)) (sym h.1) (scratch_left xs l u s laid w (e ∙ h.1)))
  span_left based (Block i) from n h w e =
      let used : u ≡ true = is_used u xs l i h.0 s h.1 in
      subst (λ (k : Bool). IsStore (with_part xs from n w) l k ×
      (stored (with_part xs from n w) l ≡ with_part_bytes (stored xs l) (Block i) w)) (sym used)
      (block_is_left xs l (subst (IsStore xs l) used s) laid based i from n h w e)

  module _ (based : AreBased l.places) (p q : Part) (start other n m from to len : ℕ) (a : IsSpan l p start n)
      (b : IsSpan l q other m) (source : from + len ≤ n) (destination : to + len ≤ m) where
    abbrev bytes : List ℕ
    bytes = part (part xs start n) from len

    abbrev left : List ℕ
    left = with_part (part xs other m) to len bytes

    abbrev pub copied_bytes : List ℕ
    copied_bytes = with_part xs (other + to) len (part xs (start + from) len)

    fits_a : start + n ≤ length xs
    fits_a = span_fits xs l u s laid p start n a

    fits_b : other + m ≤ length xs
    fits_b = span_fits xs l u s laid q other m b

    bytes_long : length bytes ≡ len
    bytes_long = part_length (part xs start n) from len (omega (arith, part_length xs start n fits_a, source))

    left_long : length left ≡ m
    left_long = length-with_part (part xs other m) bytes to len (omega (
      arith,
      part_length xs other m fits_b,
      destination,
    )) bytes_long ∙ part_length xs other m fits_b

    as_left : copied_bytes ≡ with_part xs other m left
    as_left = ap (with_part xs (other + to) len) (sym (part_in xs start n from len source))
        ∙ part_rewritten xs bytes other m to len destination fits_b

    pub copied_store : IsStore copied_bytes l u
    copied_store = let h = span_left based q other m b left left_long in
        subst (λ (ys : List ℕ). IsStore ys l u) (sym as_left) h.0

    pub copied_stored : stored copied_bytes l ≡ part_copied (stored xs l) p from q to len
    copied_stored =
        let h = span_left based q other m b left left_long in
        ap (λ (ys : List ℕ). stored ys l) as_left ∙ h.1
        ∙ ap (λ (o : List ℕ). with_part_bytes (stored xs l) q (with_part o to len bytes))
        (sym (span_bytes xs l u s laid q other m b))
        ∙ ap (λ (o : List ℕ). with_part_bytes (stored xs l) q (with_part (part_bytes (stored xs l) q) to len
        (part o from len))) (sym (span_bytes xs l u s laid p start n a))

-- what lies within a part's bytes lies within its span
pub within_span : {u : Bool} (xs : List ℕ) (l : Layout) (v : Stored) (p : Part) (from n k : ℕ) → IsStore xs l u →
    IsLaid l.units l.places → stored xs l ≡ v → IsSpan l p from n → k ≤ length (part_bytes v p) → k ≤ n
within_span {u} xs l v p from n k s laid is h fits =
    let long = ap (λ (w : Stored). length (part_bytes w p)) (sym is) ∙ ap length (span_bytes xs l u s laid p from n h)
    ∙ part_length xs from n (span_fits xs l u s laid p from n h) in
    omega (arith, fits, long)

-- the len bytes of a part from the byte `at` of the region on are none of the hole, where that begins at `hole` and
-- ends as it did
pub span_outside : (h : Holed) (l : Layout) (u : Bool) → IsKept h l u → (p : Part) (start n at len hole end : ℕ) →
    IsSpan l p start n → start ≤ at → at + len ≤ start + n
    → (at + len ≤ 0x310000 → at + len ≤ hole) → end ≡ h.to → (at + len ≤ hole) ⊎ ((end ≤ at) ⊎ (end ≤ hole))
span_outside h l u k Low start n at len hole end is le fits low same = inl (low (omega (arith, fits, is.0, is.1)))
span_outside h l u k Scratch start n at len hole end is le fits low same = inl (low (omega (arith, fits, is.0, is.1)))
span_outside h l u k (Block i) start n at len hole end is le fits low same =
    inr (inl (omega (arith, le, is.2, same, k.used (is_used u h.bytes l i is.0 k.store is.1))))
