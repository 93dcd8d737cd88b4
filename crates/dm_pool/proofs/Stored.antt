-- The parts of a store's region, as one of them is lent.
use Rattle.std.proofs.Common.{◌≡◌, ℕ, zero, suc, replicate, max, refl, Bool, true, false, Option, Some, None, ◌+◌, ◌*◌, ◌≤◌, List, [], ◌∷◌, ◌++◌, length, get_or, take, drop, sym, ap, ◌∙◌, subst, inl, ◌⊎◌, arith}
use Rattle.std.specs.List.{refill, length_refill}
use Rattle.std.proofs.lemmas.List.{length-replicate, length-take, length-drop, drop-drop, take-append-drop, take_all}
use Rattle.std.proofs.Math.Seq.{take-length}
use Rattle.std.proofs.lemmas.Option.{none-some}
use Rattle.dm_region.specs.Holes.{Holed}
use Rattle.dm_region.specs.Parts.{part, with_part}
use Rattle.dm_region.proofs.Bytes.{left_length}
use Rattle.std.specs.Prelude.{MatchOption}
use Rattle.std.specs.Bool.{MatchBool}
use Rattle.dm_pool.specs.declared.extent.Extent.{Extent}
use Rattle.dm_pool.specs.Blocks.{Blocks, IsLive, taken, resized, with_content, contents_of, IsLaid}
use Rattle.dm_pool.specs.FreeList.{AreBased}
use Rattle.dm_pool.specs.inner.FreeList.{IsTold}
use Rattle.dm_pool.specs.inner.Order.{Layout, no_layout, IsToldIn, blocks_in}
use Rattle.dm_pool.specs.Stored.{Stored, refit, zeros_of}
use Rattle.dm_pool.specs.inner.Stored.{IsStore, IsKept, stored, low_part, scratch_part, pool_part}
use Rattle.dm_region.proofs.Written.{elsewhere, written}
use Rattle.dm_pool.proofs.Blocks.{part_length, refilled, lent_is}
use Rattle.dm_pool.proofs.Layouts.{pool_of}
use Rattle.dm_region.proofs.Parts.{part_in, part_with_part}
use Rattle.dm_pool.proofs.Told.{told_lent}

pub length-zeros_of : (n : ℕ) → length (zeros_of n) ≡ n
unfolding zeros_of
length-zeros_of n = length-replicate n 0

-- the bytes from P on are lent, N of them, and w is what the borrower leaves
module _ (xs w : List ℕ) (P N : ℕ) (fits : P + N ≤ length xs) where
  abbrev pub lent : List ℕ
  lent = with_part xs P N (refill N (part xs P N) w)

  four : length (refill N (part xs P N) w) ≡ N
  four = sym (length_refill N (part xs P N) w (sym (part_length xs P N fits)))

  pub lent_length : length lent ≡ length xs
  lent_length = left_length xs P N w fits

  pub lent_elsewhere : (Q M : ℕ) → (Q + M ≤ P) ⊎ (P + N ≤ Q) → part lent Q M ≡ part xs Q M
  lent_elsewhere Q M far = elsewhere xs (refill N (part xs P N) w) P N Q M four fits far

  pub lent_there : part lent P N ≡ refill N (part xs P N) w
  lent_there = written xs (refill N (part xs P N) w) P N four fits

  pub lent_refit : part lent P N ≡ refit (part xs P N) w
  lent_refit = lent_there ∙ ap (λ n. take n (w ++ drop (length w) (part xs P N))) (sym (part_length xs P N fits))

  pub lent_whole : length w ≡ N → part lent P N ≡ w
  lent_whole e = lent_there ∙ refilled N (part xs P N) w e

-- the first n bytes of a list written over, as `refit` has it
front_refit : (n : ℕ) (xs w : List ℕ) → n ≤ length xs → take n (w ++ drop (length w) (take n xs))
    ++ drop n xs ≡ take (length xs) (take n w ++ drop (length (take n w)) xs)
front_refit zero xs w le = sym (take-length xs)
front_refit (suc n) [] w le = absurd (omega (arith, le))
front_refit (suc n) (x ∷ xs) [] le =
    ap (λ l. x ∷ l) (ap (λ (l : List ℕ). l ++ drop n xs) (take_all n (take n xs) (omega (arith, length-take n xs)))
    ∙ take-append-drop n xs ∙ sym (take-length xs))
front_refit (suc n) (x ∷ xs) (v ∷ w) le = ap (λ l. v ∷ l) (front_refit n xs w (omega (arith, le)))

-- the first n bytes of a part are lent
pub front_lent : (xs w : List ℕ) (P N n : ℕ) → n ≤ N → P + N ≤ length xs →
    part (with_part xs P n (refill n (part xs P n) w)) P N ≡ refit (part xs P N) (take n w)
front_lent xs w P N n le fits =
    let here : P + 0 ≡ P = omega arith in let none : 0 + n ≡ n = omega arith in
    let ws = refill n (part xs P n) w in
    let long : length ws ≡ n = sym (length_refill n (part xs P n) w (sym (part_length xs P n (omega (
      arith,
      le,
      fits,
    ))))) in
    let first : part xs P n ≡ take n (part xs P N) = ap (λ i. part xs i n) (sym here)
    ∙ sym (part_in xs P N 0 n (omega (arith, le))) in
    ap (λ i. part (with_part xs i n ws) P N) (sym here)
    ∙ part_with_part xs ws P N 0 n long (omega (arith, le)) fits
    ∙ ap (λ i. ws ++ drop i (part xs P N)) none
    ∙ ap (λ (l : List ℕ). refill n l w ++ drop n (part xs P N)) first
    ∙ front_refit n (part xs P N) w (omega (arith, le, part_length xs P N fits))

pub same_stored : (low low' scratch scratch' : List ℕ) (blocks blocks' : Blocks) → low ≡ low' → scratch ≡ scratch' →
    blocks ≡ blocks' → let s : Stored = record { low = low; scratch = scratch; blocks = blocks } in
    s ≡ record { low = low'; scratch = scratch'; blocks = blocks' }
same_stored low low' scratch scratch' blocks blocks' a b c =
    let one : List ℕ → Stored = λ x. record { low = x; scratch = scratch; blocks = blocks } in
    let two : List ℕ → Stored = λ x. record { low = low'; scratch = x; blocks = blocks } in
    let three : Blocks → Stored = λ x. record { low = low'; scratch = scratch'; blocks = x } in
    ap one a ∙ ap two b ∙ ap three c

-- the pool's N bytes are lent with its table, and w and l are what the borrower leaves
module _ (xs w : List ℕ) (n N : ℕ) (l : Layout) (whole : length xs ≡ 0x310000 + n * 1024) (all : N ≡ n * 1024)
    (long : length w ≡ N) (same : l.units ≡ n) (told : IsToldIn l w) where
  fits : 0x310000 + N ≤ length xs
  fits = omega (arith, whole, all)

  left : pool_part (lent xs w 0x310000 N fits) l.units ≡ w
  left = let e : l.units * 1024 ≡ N = omega (arith, same, all) in ap (part (lent xs w 0x310000 N fits) 0x310000) e
      ∙ lent_whole xs w 0x310000 N fits long

  pub pool_store : IsStore (with_part xs 0x310000 N (refill N (part xs 0x310000 N) w)) l true
  pool_store = record {
    whole = omega (arith, lent_length xs w 0x310000 N fits, whole, same);
    listed = subst (IsToldIn l) (sym left) told;
  }

  pub pool_stored : stored (with_part xs 0x310000 N (refill N (part xs 0x310000 N) w)) l ≡ record {
    low = low_part xs;
    scratch = scratch_part xs;
    blocks = blocks_in l w;
  }
  pool_stored = same_stored _ _ _ _ _ _ (lent_elsewhere xs w 0x310000 N fits 0 0x110000 (inl (omega arith)))
      (lent_elsewhere xs w 0x310000 N fits 0x110000 0x200000 (inl (omega arith))) (ap (blocks_in l) left)

-- the pool's bytes as they are lent
pub pool_told : (xs p : List ℕ) (N : ℕ) (l : Layout) → N ≡ l.units * 1024 → p ≡ part xs 0x310000 N → IsStore xs l true →
    IsToldIn l p
pool_told xs p N l all e s = subst (IsToldIn l) (sym (e ∙ ap (part xs 0x310000) all)) s.listed

pub pool_fits : {u : Bool} (xs : List ℕ) (N : ℕ) (l : Layout) → N ≡ l.units * 1024 → IsStore xs l u →
    0x310000 + N ≤ length xs
pool_fits xs N l all s = omega (arith, s.whole, all)

-- the bytes of the region behind the scratch bytes are those of the pool
pub pool_behind : {u : Bool} (xs : List ℕ) (l : Layout) → IsStore xs l u → drop 0x310000 xs ≡ pool_part xs l.units
pool_behind xs l s = sym (take_all (l.units * 1024) (drop 0x310000 xs) (omega (
  arith,
  length-drop 0x310000 xs,
  s.whole,
)))

pub whole_parts : (xs : List ℕ) (a b n : ℕ) → n ≡ a + b → xs ≡ part xs 0 a ++ (part xs a b ++ drop n xs)
whole_parts xs a b n e = sym (
    ap (λ k. take a xs ++ (part xs a b ++ drop k xs)) e ∙ ap (λ l. take a xs
    ++ (part xs a b ++ l)) (sym (drop-drop b a xs))
    ∙ ap (λ l. take a xs ++ l) (take-append-drop b (drop a xs)) ∙ take-append-drop a xs)

-- what a call on the pool told of its table and bytes, told of the store
module _ (x y : Stored) (l l' : Layout) (p w : List ℕ) (was : blocks_in l p ≡ x.blocks) (new : y ≡ record {
  low = x.low;
  scratch = x.scratch;
  blocks = blocks_in l' w;
}) where
  kept : l' ≡ l → w ≡ p → y ≡ x
  kept a b = new ∙ ap (λ (k : Layout). record x { blocks = blocks_in k w }) a
      ∙ ap (λ (q : List ℕ). record x { blocks = blocks_in l q }) b ∙ ap (λ (s : Blocks). record x { blocks = s }) was

  blocks_are : y.blocks ≡ blocks_in l' w
  blocks_are = ap (λ (s : Stored). s.blocks) new

  rest_is : y ≡ record x { blocks = y.blocks }
  rest_is = new ∙ ap (λ (s : Blocks). record x { blocks = s }) (sym blocks_are)

  pub told_taken : (o : Option ℕ) (u : ℕ) → MatchOption o ((taken (blocks_in l p) u ≡ None) × (l' ≡ l) ×
      (w ≡ p)) (λ i. taken (blocks_in l p) u ≡ Some (i, blocks_in l' w))
      → MatchOption o ((taken x.blocks u ≡ None) × (y ≡ x)) (λ i. (taken x.blocks u ≡ Some (i, y.blocks)) ×
      (y ≡ record x { blocks = y.blocks }))
  told_taken None u h = (ap (λ s. taken s u) (sym was) ∙ h.0, kept h.1 h.2)
  told_taken (Some i) u h = (
    ap (λ s. taken s u) (sym was) ∙ h ∙ ap (λ (s : Blocks). Some (i, s)) (sym blocks_are),
    rest_is,
  )

  pub told_resized : (b : Bool) (i u : ℕ) → MatchBool b (resized (blocks_in l p) i u ≡ Some (blocks_in l' w))
      ((resized (blocks_in l p) i u ≡ None) × (l' ≡ l) × (w ≡ p))
      → MatchBool b ((resized x.blocks i u ≡ Some y.blocks) × (y ≡ record x { blocks = y.blocks }))
      ((resized x.blocks i u ≡ None) × (y ≡ x))
  told_resized true i u h = (
    ap (λ s. resized s i u) (sym was) ∙ h ∙ ap (λ (s : Blocks). Some s) (sym blocks_are),
    rest_is,
  )
  told_resized false i u h = (ap (λ s. resized s i u) (sym was) ∙ h.0, kept h.1 h.2)

no_place : (n i : ℕ) → get_or (replicate {A = Option Extent} n None) i None ≡ None
no_place zero i = refl
no_place (suc n) zero = refl
no_place (suc n) (suc i) = no_place n i

pub none_placed : (n i : ℕ) → get_or (no_layout n).places i None ≡ None
unfolding no_layout
none_placed n i = no_place 576 i

-- a pool that has a block is in use
pub is_used : (u : Bool) (xs : List ℕ) (l : Layout) (i : ℕ) (b : Extent) → IsStore xs l u →
    get_or l.places i None ≡ Some b → u ≡ true
is_used true xs l i b s at = refl
is_used false xs l i b s at = absurd (none-some b (sym (none_placed l.units i)
    ∙ ap (λ (ps : List (Option Extent)). get_or ps i None) (sym s.listed) ∙ at))

-- what is kept of a region with its first e bytes, all below the pool, out of its hole
pub up_kept : (h : Holed) (l : Layout) (u : Bool) (e : ℕ) → e ≤ 0x310000 → IsKept h l u →
    IsKept (record h { from = max h.from e }) l u
up_kept h l u e le k = record {
  store = k.store;
  low = omega (arith, k.low);
  front = omega (arith, k.front, le);
  back = k.back;
  used = k.used;
}

-- what is kept of a region with other bytes out of its hole
pub with_kept : (h : Holed) (l m : Layout) (u : Bool) (ys : List ℕ) → IsKept h l u → IsStore ys m u →
    IsKept (record h { bytes = ys }) m u
with_kept h l m u ys k s = record { store = s; low = k.low; front = k.front; back = k.back; used = k.used }

-- what is kept of a region with other bytes in a pool that is in use
pub pool_kept : (h : Holed) (l m : Layout) (ys : List ℕ) → IsKept h l true → IsStore ys m true →
    IsKept (record h { bytes = ys }) m true
pool_kept h l m ys k s = with_kept h l m true ys k s

pub used_store : (h : Holed) (l : Layout) (u : Bool) → IsKept h l u → u ≡ true → IsStore h.bytes l true
used_store h l u k e = subst (IsStore h.bytes l) e k.store

-- the table of a pool that is not in use has no block
pub not_used : (h : Holed) (l : Layout) (u : Bool) → IsKept h l u → u ≡ false → l.places ≡ (no_layout l.units).places
not_used h l u k e = (subst (IsStore h.bytes l) e k.store).listed

module _ (v : Stored) (h : Holed) (l : Layout) (u : Bool) (i : ℕ) (k : IsKept h l u) (is : stored h.bytes l
    ≡ v) (live : IsLive v.blocks i) where
  pub live_used : u ≡ true
  live_used = is_used u h.bytes l i live.1.0 k.store (ap (λ (w : Stored). get_or w.blocks.places i None) is ∙ live.1.1)

  pub live_store : IsStore h.bytes l true
  live_store = used_store h l u k live_used

-- a block is lent, and w is what the borrower leaves
module _ (xs : List ℕ) (l : Layout) (i : ℕ) (b : Extent) (w : List ℕ) (s : IsStore xs l true)
    (laid : IsLaid l.units l.places) (based : AreBased l.places) (at : get_or l.places i None ≡ Some b) where
  abbrev pub block_left : List ℕ
  block_left = with_part xs (0x310000 + b.base * 1024) (b.units * 1024) (refill (b.units * 1024)
      (part xs (0x310000 + b.base * 1024) (b.units * 1024)) w)

  abbrev p : List ℕ
  p = pool_part xs l.units

  inside : b.base * 1024 + b.units * 1024 ≤ l.units * 1024
  inside = omega (arith, laid.within i b at)

  room : 0x310000 + b.base * 1024 + b.units * 1024 ≤ length xs
  room = omega (arith, inside, s.whole)

  there : part xs (0x310000 + b.base * 1024) (b.units * 1024) ≡ part p (b.base * 1024) (b.units * 1024)
  there = sym (part_in xs 0x310000 (l.units * 1024) (b.base * 1024) (b.units * 1024) inside)

  pool_after : pool_part block_left l.units ≡ with_part p (b.base * 1024) (b.units * 1024)
      (refill (b.units * 1024) (part p (b.base * 1024) (b.units * 1024)) w)
  pool_after =
      part_with_part xs (refill (b.units * 1024) (part xs (0x310000 + b.base * 1024) (b.units * 1024)) w) 0x310000
      (l.units * 1024) (b.base * 1024) (b.units * 1024)
      (four xs w (0x310000 + b.base * 1024) (b.units * 1024) room) inside (omega (arith, s.whole))
      ∙ ap (λ (o : List ℕ). with_part p (b.base * 1024) (b.units * 1024) (refill (b.units * 1024) o w)) there

  is_told : IsTold l.units l.places p l.first
  is_told = record { pool = pool_of l.units l.places p laid s.listed.whole; based = based; tells = s.listed.tells }

  pub block_store : IsStore block_left l true
  block_store =
      let t = told_lent l.units l.places p l.first i b w is_told at in
      record {
        whole = lent_length xs w (0x310000 + b.base * 1024) (b.units * 1024) room ∙ s.whole;
        listed = subst (IsToldIn l) (sym pool_after) (record { whole = t.pool.whole; tells = t.tells });
      }

  pub block_stored : stored block_left l ≡ record {
    low = low_part xs;
    scratch = scratch_part xs;
    blocks = with_content (blocks_in l p) i (refit (get_or (contents_of l.places p) i []) w);
  }
  block_stored = same_stored _ _ _ _ _ _ (lent_elsewhere xs w (0x310000 + b.base * 1024)
      (b.units * 1024) room 0 0x110000 (inl (omega arith))) (lent_elsewhere xs w (0x310000 + b.base * 1024)
      (b.units * 1024) room 0x110000 0x200000 (inl (omega arith)))
      (ap (blocks_in l) pool_after ∙ lent_is l.units l.places p is_told.pool i b at w)
