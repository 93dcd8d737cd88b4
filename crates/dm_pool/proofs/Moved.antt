-- Bytes of one block, copied into another or the same one.
use Rattle.std.proofs.Common.{◌≡◌, Bool, true, ℕ, ◌+◌, ◌*◌, ◌≤◌, List, [], length, get_or, Some, None, sym, ap, ◌∙◌, subst, arith}
use Rattle.dm_region.specs.Parts.{part, with_part}
use Rattle.dm_region.proofs.Bytes.{length-with_part}
use Rattle.dm_pool.specs.declared.extent.Extent.{Extent}
use Rattle.dm_pool.specs.Blocks.{Blocks, contents_of, with_content, moved_bytes, IsLaid}
use Rattle.dm_pool.specs.FreeList.{AreBased}
use Rattle.dm_pool.specs.inner.Order.{Layout, blocks_in}
use Rattle.dm_pool.specs.Stored.{Stored, refit}
use Rattle.dm_pool.specs.inner.Stored.{IsStore, stored, low_part, scratch_part, pool_part}
use Rattle.dm_pool.proofs.Blocks.{part_length, refilled, content_of}
use Rattle.dm_region.proofs.Parts.{part_in, part_rewritten}
use Rattle.dm_pool.proofs.Stored.{block_left, block_store, block_stored}

module _ (xs : List ℕ) (l : Layout) (i j : ℕ) (a b : Extent) (from to len : ℕ) (s : IsStore xs l true)
    (laid : IsLaid l.units l.places) (based : AreBased l.places)
    (at : get_or l.places i None ≡ Some a) (goes : get_or l.places j None ≡ Some b) (source : from + len
    ≤ a.units * 1024) (destination : to + len ≤ b.units * 1024) where
  abbrev p : List ℕ
  p = pool_part xs l.units

  abbrev bytes : List ℕ
  bytes = part (part p (a.base * 1024) (a.units * 1024)) from len

  abbrev left : List ℕ
  left = with_part (part p (b.base * 1024) (b.units * 1024)) to len bytes

  pool_long : length p ≡ l.units * 1024
  pool_long = part_length xs 0x310000 (l.units * 1024) (omega (arith, s.whole))

  inside_a : a.base * 1024 + a.units * 1024 ≤ l.units * 1024
  inside_a = omega (arith, laid.within i a at)

  inside_b : b.base * 1024 + b.units * 1024 ≤ l.units * 1024
  inside_b = omega (arith, laid.within j b goes)

  long_a : length (part p (a.base * 1024) (a.units * 1024)) ≡ a.units * 1024
  long_a = part_length p (a.base * 1024) (a.units * 1024) (omega (arith, inside_a, pool_long))

  long_b : length (part p (b.base * 1024) (b.units * 1024)) ≡ b.units * 1024
  long_b = part_length p (b.base * 1024) (b.units * 1024) (omega (arith, inside_b, pool_long))

  bytes_long : length bytes ≡ len
  bytes_long = part_length (part p (a.base * 1024) (a.units * 1024)) from len (omega (arith, long_a, source))

  left_long : length left ≡ b.units * 1024
  left_long = length-with_part (part p (b.base * 1024) (b.units * 1024)) bytes to len (omega (
    arith,
    long_b,
    destination,
  )) bytes_long ∙ long_b

  read : part xs (0x310000 + (a.base * 1024 + from)) len ≡ bytes
  read =
      sym (part_in (part xs 0x310000 (l.units * 1024)) (a.base * 1024) (a.units * 1024) from len source
      ∙ part_in xs 0x310000 (l.units * 1024) (a.base * 1024 + from) len (omega (arith, inside_a, source)))

  here : part xs (0x310000 + b.base * 1024) (b.units * 1024) ≡ part p (b.base * 1024) (b.units * 1024)
  here = sym (part_in xs 0x310000 (l.units * 1024) (b.base * 1024) (b.units * 1024) inside_b)

  room : 0x310000 + b.base * 1024 + b.units * 1024 ≤ length xs
  room = omega (arith, inside_b, s.whole)

  abbrev copied : List ℕ
  copied = with_part xs (0x310000 + (b.base * 1024 + to)) len (part xs (0x310000 + (a.base * 1024 + from)) len)

  as_left : copied ≡ block_left xs l j b left s laid based goes
  as_left =
      let place : 0x310000 + (b.base * 1024 + to) ≡ 0x310000 + b.base * 1024 + to = omega arith in
      ap (λ (d : List ℕ). with_part xs (0x310000 + (b.base * 1024 + to)) len d) read
      ∙ ap (λ n. with_part xs n len bytes) place
      ∙ part_rewritten xs bytes (0x310000 + b.base * 1024) (b.units * 1024) to len destination room
      ∙ ap (λ (o : List ℕ). with_part xs (0x310000 + b.base * 1024) (b.units * 1024) (with_part o to len bytes)) here
      ∙ ap (λ (w : List ℕ). with_part xs (0x310000 + b.base * 1024) (b.units * 1024) w)
      (sym (refilled (b.units * 1024) (part xs (0x310000 + b.base * 1024) (b.units * 1024)) left left_long))

  pub moved_store : IsStore copied l true
  moved_store = subst (λ (ys : List ℕ). IsStore ys l true) (sym as_left) (block_store xs l j b left s laid based goes)

  refitted : refit (get_or (contents_of l.places p) j []) left ≡ left
  refitted =
      let old : get_or (contents_of l.places p) j [] ≡ part p (b.base * 1024) (b.units * 1024) =
      content_of l.places j b p goes in
      ap (λ (o : List ℕ). refit o left) old ∙ refilled (length (part p (b.base * 1024) (b.units * 1024)))
      (part p (b.base * 1024) (b.units * 1024)) left (left_long ∙ sym long_b)

  as_moved : with_content (blocks_in l p) j left ≡ moved_bytes (blocks_in l p) i from j to len
  as_moved =
      ap (λ (o : List ℕ). with_content (blocks_in l p) j (with_part o to len bytes))
      (sym (content_of l.places j b p goes))
      ∙ ap (λ (o : List ℕ). with_content (blocks_in l p) j (with_part (get_or (contents_of l.places p) j []) to len
      (part o from len))) (sym (content_of l.places i a p at))

  pub moved_stored : stored copied l ≡ record {
    low = low_part xs;
    scratch = scratch_part xs;
    blocks = moved_bytes (blocks_in l p) i from j to len;
  }
  moved_stored =
      let with_blocks : Blocks → Stored = λ k. record { low = low_part xs; scratch = scratch_part xs; blocks = k } in
      ap (λ (ys : List ℕ). stored ys l) as_left ∙ block_stored xs l j b left s laid based goes
      ∙ ap with_blocks (ap (with_content (blocks_in l p) j) refitted ∙ as_moved)

-- what lies within a block's bytes lies within its units
pub within_units : {u : Bool} (xs : List ℕ) (l : Layout) (v : Stored) (i n : ℕ) (a : Extent) → IsStore xs l u →
    IsLaid l.units l.places → stored xs l ≡ v → get_or l.places i None ≡ Some a →
    n ≤ length (get_or v.blocks.contents i []) → n ≤ a.units * 1024
within_units xs l v i n a s laid is at h =
    let p = pool_part xs l.units in
    let pool_is = part_length xs 0x310000 (l.units * 1024) (omega (arith, s.whole)) in
    let inside = laid.within i a at in
    let long = part_length p (a.base * 1024) (a.units * 1024) (omega (arith, inside, pool_is)) in
    let same = ap (λ (w : Stored). length (get_or w.blocks.contents i [])) (sym is)
    ∙ ap length (content_of l.places i a p at) ∙ long in
    omega (arith, h, same)
