-- Single bytes and words of a store by their spots
use Rattle.std.proofs.Common.{◌≡◌, Bool, ℕ, zero, suc, take, drop, ◌++◌, ◌+◌, ◌*◌, ◌<◌, ◌≤◌, List, [], ◌∷◌, length, set, get_or, None, refl, sym, ap, ◌∙◌, subst, inl, inr, ◌⊎◌, arith}
use Rattle.std.specs.List.{refill}
use Rattle.std.proofs.lemmas.List.{get_or-take, get_or-drop, length-set}
use Rattle.dm_region.specs.Holes.{Holed, IsOutside}
use Rattle.dm_region.specs.Parts.{part, with_part}
use Rattle.dm_region.proofs.Parts.{part_rewritten}
use Rattle.dm_pool.specs.declared.part.Part.{Part}
use Rattle.dm_pool.specs.declared.part.Part.TheVariants.{Low, Scratch, Block}
use Rattle.dm_pool.specs.Blocks.{IsLaid}
use Rattle.dm_pool.specs.FreeList.{AreBased}
use Rattle.dm_pool.specs.inner.Order.{Layout}
use Rattle.dm_pool.specs.Parts.{part_bytes, with_part_bytes, with_part_byte, IsSpot}
use Rattle.dm_pool.specs.inner.Parts.{IsSpan}
use Rattle.dm_pool.specs.Stored.{Stored}
use Rattle.dm_pool.specs.inner.Stored.{IsStore, IsKept, stored}
use Rattle.dm_pool.proofs.Blocks.{part_length}
use Rattle.dm_pool.proofs.Copied.{span_fits, span_bytes, span_left}
use Rattle.dm_pool.proofs.Stored.{is_used, with_kept}

-- the byte at a spot is one of the bytes of its part's span
pub spot_in : (xs : List ℕ) (l : Layout) (v : Stored) (p : Part) (k spot : ℕ) → stored xs l ≡ v → IsSpot v p k spot →
    (from : ℕ) × (n : ℕ) × IsSpan l p from n × (k < n) × (spot ≡ from + k)
spot_in xs l v Low k spot e h = (0, 0x110000, (refl, refl), h.0, omega (arith, h.1))
spot_in xs l v Scratch k spot e h = absurd h
spot_in xs l v (Block i) k spot e h = (
  0x310000 + h.0.base * 1024,
  h.0.units * 1024,
  (
    h.0,
    ap (λ (s : Stored). get_or s.blocks.places i None) e ∙ h.1,
    refl,
    refl,
  ),
  h.2,
  h.3,
)

get_part : (xs : List ℕ) (b n i : ℕ) → i < n → get_or (part xs b n) i 0 ≡ get_or xs (b + i) 0
get_part xs b n i h = get_or-take n (drop b xs) i 0 h ∙ get_or-drop b xs i 0

-- a list with one element in place of another
one_set : (xs : List ℕ) (k v : ℕ) → k < length xs → with_part xs k 1 (v ∷ []) ≡ set xs k v
one_set [] k v h = absurd (omega (arith, h))
one_set (x ∷ xs) zero v h = refl
one_set (x ∷ xs) (suc k) v h =
    let e : suc k + 1 ≡ suc (k + 1) = omega arith in
    ap (λ n. take (suc k) (x ∷ xs) ++ ((v ∷ []) ++ drop n (x ∷ xs))) e
    ∙ ap (λ l. x ∷ l) (one_set xs k v (omega (arith, h)))

one_left : (xs ys : List ℕ) (v : ℕ) → length xs ≡ 1 → ys ≡ xs → refill 1 xs (set ys 0 v) ≡ v ∷ []
one_left [] ys v long e = absurd (omega (arith, long))
one_left (x ∷ []) ys v long e = ap (λ (l : List ℕ). refill 1 (x ∷ []) (set l 0 v)) e
one_left (x ∷ z ∷ xs) ys v long e = absurd (omega (arith, long))

-- a list with two elements in place of others
two_set : (xs : List ℕ) (k v w : ℕ) → k + 2 ≤ length xs → with_part xs k 2 (v ∷ w ∷ []) ≡ set (set xs k v) (k + 1) w
two_set [] k v w h = absurd (omega (arith, h))
two_set (x ∷ []) zero v w h = absurd (omega (arith, h))
two_set (x ∷ y ∷ xs) zero v w h = refl
two_set (x ∷ xs) (suc k) v w h =
    let e : suc k + 2 ≡ suc (k + 2) = omega arith in
    let f : suc (k + 1) ≡ suc k + 1 = omega arith in
    ap (λ n. take (suc k) (x ∷ xs) ++ ((v ∷ w ∷ []) ++ drop n (x ∷ xs))) e
    ∙ ap (λ l. x ∷ l) (two_set xs k v w (omega (arith, h)))
    ∙ ap (λ n. set (set (x ∷ xs) (suc k) v) n w) f

two_left : (xs ys : List ℕ) (v w : ℕ) → length xs ≡ 2 → ys ≡ xs → refill 2 xs (set (set ys 0 v) 1 w) ≡ v ∷ w ∷ []
two_left [] ys v w long e = absurd (omega (arith, long))
two_left (x ∷ []) ys v w long e = absurd (omega (arith, long))
two_left (x ∷ y ∷ []) ys v w long e = ap (λ (l : List ℕ). refill 2 (x ∷ y ∷ []) (set (set l 0 v) 1 w)) e
two_left (x ∷ y ∷ z ∷ xs) ys v w long e = absurd (omega (arith, long))

-- two bytes side by side, of which none is of a hole from a to b, are outside as one stretch
two_apart : (a b spot : ℕ) → (spot + 1 ≤ a) ⊎ ((b ≤ spot) ⊎ (b ≤ a)) → (spot + 1 + 1 ≤ a) ⊎ ((b ≤ spot + 1) ⊎ (b ≤ a)) →
    (spot + 2 ≤ a) ⊎ ((b ≤ spot) ⊎ (b ≤ a))
two_apart a b spot (inr x) y = inr x
two_apart a b spot (inl x) (inl y) = inl (omega (arith, y))
two_apart a b spot (inl x) (inr (inl y)) = inr (inr (omega (arith, x, y)))
two_apart a b spot (inl x) (inr (inr y)) = inr (inr y)

-- spots stay where a part gets other bytes
spot_with : (v : Stored) (p : Part) (xs : List ℕ) (q : Part) (k spot : ℕ) → IsSpot v q k spot →
    IsSpot (with_part_bytes v p xs) q k spot
spot_with v Low xs Low k spot h = h
spot_with v Low xs Scratch k spot h = h
spot_with v Low xs (Block i) k spot h = h
spot_with v Scratch xs Low k spot h = h
spot_with v Scratch xs Scratch k spot h = h
spot_with v Scratch xs (Block i) k spot h = h
spot_with v (Block j) xs Low k spot h = h
spot_with v (Block j) xs Scratch k spot h = h
spot_with v (Block j) xs (Block i) k spot h = h

module _ (h : Holed) (l : Layout) (u : Bool) (v : Stored) (kept : IsKept h l u) (laid : IsLaid l.units l.places)
    (is : stored h.bytes l ≡ v) where
  below : (p : Part) (k spot : ℕ) → IsSpot v p k spot → (spot + 1 ≤ h.from) ⊎ ((h.to ≤ spot) ⊎ (h.to ≤ h.from))
  below Low k spot s = inl (omega (arith, s.0, s.1, kept.low))
  below Scratch k spot s = absurd s
  below (Block i) k spot s =
      inr (inl (omega (
        arith,
        s.3,
        kept.used (is_used u h.bytes l i s.0 kept.store
            (ap (λ (w : Stored). get_or w.blocks.places i None) is ∙ s.1)),
      )))

  -- it is none of the hole
  pub spot_outside : (p : Part) (k spot : ℕ) → IsSpot v p k spot → IsOutside h spot 1
  spot_outside p k spot s =
      let there = spot_in h.bytes l v p k spot is s in
      let fits = span_fits h.bytes l u kept.store laid p there.0 there.1 there.2 in
      (omega (arith, fits, there.3, there.4), below p k spot s)

  -- it is the part's
  pub spot_byte : (p : Part) (k spot : ℕ) (ys : List ℕ) → IsSpot v p k spot → ys ≡ part h.bytes spot 1 →
      get_or ys 0 0 ≡ get_or (part_bytes v p) k 0
  spot_byte p k spot ys s e =
      let there = spot_in h.bytes l v p k spot is s in
      ap (λ (zs : List ℕ). get_or zs 0 0) e ∙ get_part h.bytes spot 1 0 (omega arith)
      ∙ ap (λ n. get_or h.bytes n 0) (let same : spot + 0 ≡ there.0 + k = omega (arith, there.4) in same)
      ∙ sym (get_part h.bytes there.0 there.1 k there.3)
      ∙ ap (λ (zs : List ℕ). get_or zs k 0) (sym (span_bytes h.bytes l u kept.store laid p there.0 there.1 there.2)
      ∙ ap (λ (w : Stored). part_bytes w p) is)

  -- two bytes side by side, of one part or of two
  pub word_outside : (p : Part) (j : ℕ) (q : Part) (k spot : ℕ) → IsSpot v p j spot → IsSpot v q k (spot + 1) →
      IsOutside h spot 2
  word_outside p j q k spot s t =
      let low = spot_outside p j spot s in
      let high = spot_outside q k (spot + 1) t in
      (omega (arith, high.0), two_apart h.from h.to spot low.1 high.1)

  pub word_bytes : (p : Part) (j : ℕ) (q : Part) (k spot : ℕ) (ys : List ℕ) → IsSpot v p j spot →
      IsSpot v q k (spot + 1) → ys ≡ part h.bytes spot 2 →
      (get_or ys 0 0 ≡ get_or (part_bytes v p) j 0) × (get_or ys 1 0 ≡ get_or (part_bytes v q) k 0)
  word_bytes p j q k spot ys s t e =
      let next : spot + 1 ≡ spot + 1 + 0 = omega arith in (
        ap (λ (zs : List ℕ). get_or zs 0 0) e ∙ get_part h.bytes spot 2 0 (omega arith)
            ∙ sym (get_part h.bytes spot 1 0 (omega arith))
            ∙ spot_byte p j spot (part h.bytes spot 1) s refl,
        ap (λ (zs : List ℕ). get_or zs 1 0) e ∙ get_part h.bytes spot 2 1 (omega arith)
            ∙ ap (λ n. get_or h.bytes n 0) next
            ∙ sym (get_part h.bytes (spot + 1) 1 0 (omega arith))
            ∙ spot_byte q k (spot + 1) (part h.bytes (spot + 1) 1) t refl,
      )

  module _ (based : AreBased l.places) (p : Part) (k spot x : ℕ) (s : IsSpot v p k spot) (ys : List ℕ) (lent : ys
      ≡ part h.bytes spot 1) where
    abbrev pub spot_left : List ℕ
    spot_left = with_part h.bytes spot 1 (refill 1 (part h.bytes spot 1) (set ys 0 x))

    there : (from : ℕ) × (n : ℕ) × IsSpan l p from n × (k < n) × (spot ≡ from + k)
    there = spot_in h.bytes l v p k spot is s

    abbrev old : List ℕ
    old = part h.bytes there.0 there.1

    fits : there.0 + there.1 ≤ length h.bytes
    fits = span_fits h.bytes l u kept.store laid p there.0 there.1 there.2

    long : length old ≡ there.1
    long = part_length h.bytes there.0 there.1 fits

    as_span : spot_left ≡ with_part h.bytes there.0 there.1 (set old k x)
    as_span =
        ap (with_part h.bytes spot 1) (one_left (part h.bytes spot 1) ys x (part_length h.bytes spot 1 (omega (
          arith,
          fits,
          there.3,
          there.4,
        ))) lent)
        ∙ ap (λ n. with_part h.bytes n 1 (x ∷ [])) there.4
        ∙ part_rewritten h.bytes (x ∷ []) there.0 there.1 k 1 (omega (arith, there.3)) fits
        ∙ ap (with_part h.bytes there.0 there.1) (one_set old k x (omega (arith, long, there.3)))

    left : IsStore (with_part h.bytes there.0 there.1 (set old k x)) l u ×
        (stored (with_part h.bytes there.0 there.1 (set old k x)) l ≡ with_part_bytes (stored h.bytes l) p
        (set old k x))
    left = span_left h.bytes l u kept.store laid based p there.0 there.1 there.2 (set old k x) (length-set old k x
        ∙ long)

    pub spot_store : IsStore spot_left l u
    spot_store = subst (λ (zs : List ℕ). IsStore zs l u) (sym as_span) left.0

    pub spot_stored : stored spot_left l ≡ with_part_bytes v p (set (part_bytes v p) k x)
    spot_stored =
        ap (λ (zs : List ℕ). stored zs l) as_span ∙ left.1
        ∙ ap (λ (zs : List ℕ). with_part_bytes (stored h.bytes l) p (set zs k x))
        (sym (span_bytes h.bytes l u kept.store laid p there.0 there.1 there.2))
        ∙ ap (λ (w : Stored). with_part_bytes w p (set (part_bytes w p) k x)) is

    spot_set : spot_left ≡ set h.bytes spot x
    spot_set =
        let whole : spot + 1 ≤ length h.bytes = (spot_outside p k spot s).0 in
        ap (with_part h.bytes spot 1) (one_left (part h.bytes spot 1) ys x (part_length h.bytes spot 1 whole) lent)
        ∙ one_set h.bytes spot x (omega (arith, whole))

    pub set_store : IsStore (set h.bytes spot x) l u
    set_store = subst (λ (zs : List ℕ). IsStore zs l u) spot_set spot_store

    pub set_stored : stored (set h.bytes spot x) l ≡ with_part_byte v p k x
    set_stored = ap (λ (zs : List ℕ). stored zs l) (sym spot_set) ∙ spot_stored

module _ (h : Holed) (l : Layout) (u : Bool) (v : Stored) (kept : IsKept h l u) (laid : IsLaid l.units l.places)
    (is : stored h.bytes l ≡ v) (based : AreBased l.places) where
  module _ (p : Part) (j : ℕ) (q : Part) (k spot x y : ℕ) (s : IsSpot v p j spot) (t : IsSpot v q k (spot + 1))
      (ys : List ℕ) (lent : ys ≡ part h.bytes spot 2) where
    abbrev pub word_left : List ℕ
    word_left = with_part h.bytes spot 2 (refill 2 (part h.bytes spot 2) (set (set ys 0 x) 1 y))

    abbrev low_set : List ℕ
    low_set = set h.bytes spot x

    low_kept : IsKept (record h { bytes = low_set }) l u
    low_kept = with_kept h l l u low_set kept (set_store h l u v kept laid is based p j spot x s
        (part h.bytes spot 1) refl)

    low_stored : stored low_set l ≡ with_part_byte v p j x
    low_stored = set_stored h l u v kept laid is based p j spot x s (part h.bytes spot 1) refl

    high_spot : IsSpot (with_part_byte v p j x) q k (spot + 1)
    high_spot = spot_with v p (set (part_bytes v p) j x) q k (spot + 1) t

    word_set : word_left ≡ set low_set (spot + 1) y
    word_set =
        let whole : spot + 2 ≤ length h.bytes = (word_outside h l u v kept laid is p j q k spot s t).0 in
        ap (with_part h.bytes spot 2) (two_left (part h.bytes spot 2) ys x y (part_length h.bytes spot 2 whole) lent)
        ∙ two_set h.bytes spot x y whole

    pub word_store : IsStore word_left l u
    word_store =
        subst (λ (zs : List ℕ). IsStore zs l u) (sym word_set)
        (set_store (record h { bytes = low_set }) l u (with_part_byte v p j x) low_kept laid low_stored based q k
        (spot + 1) y high_spot (part low_set (spot + 1) 1) refl)

    pub word_stored : stored word_left l ≡ with_part_byte (with_part_byte v p j x) q k y
    word_stored =
        ap (λ (zs : List ℕ). stored zs l) word_set
        ∙ set_stored (record h { bytes = low_set }) l u (with_part_byte v p j x) low_kept laid low_stored based q k
        (spot + 1) y high_spot (part low_set (spot + 1) 1) refl
