-- Stretches of places: what is read from one, and what is written to one
use Rattle.std.proofs.Common.{◌≡◌, ℕ, suc, zero, ◌+◌, ◌-◌, ◌*◌, ◌/◌, ◌%◌, ◌<◌, ◌≤◌, Bool, true, false, nat_lt, List, [], ◌∷◌, ◌++◌, Option, None, length, get_or, set, take, drop, replicate, refl, sym, ◌∙◌, ap, subst, arith, inl, inr, get_or-set_same}
use Rattle.std.proofs.Math.Seq.{take-add}
use Rattle.std.proofs.lemmas.Bool.{cases_lt}
use Rattle.std.proofs.lemmas.Bool.Decides.{nat_tests}
use Rattle.std.proofs.lemmas.List.{length-set, length-replicate, get_or-replicate, get_or-take, get_or-drop, ext_get_or, take-append-drop, drop-drop}
use Rattle.std.specs.Prelude.{slice_index_or, min}
use Rattle.dm_region.specs.Parts.{part, with_part}
use Rattle.dm_region.proofs.Bytes.{length-with_part}
use Rattle.dm_pool.specs.Blocks.{with_content}
use Rattle.dm_region.proofs.Written.{twice}
use Rattle.dm_pool.proofs.Blocks.{part_length, set_twice}
use Rattle.dm_space.specs.declared.place.Place.{Place}
use Rattle.dm_space.specs.declared.place.Place.TheVariants.{Low, Page, Rom, Nothing}
use Rattle.dm_space.specs.Copies.{values, bytes_read, bytes_written, copied_in, copied_out}
use Rattle.dm_space.specs.Memory.{Memory, Held, Fits, IsHeld, IsThere, place, peek, poke, byte_at, shown, page_bytes, with_blocks, with_byte}
use Rattle.dm_space.specs.Rom.{rom}
use Rattle.dm_space.specs.inner.SideBySide.{shift, stretch_bytes, with_stretch}
use Rattle.dm_space.proofs.Places.{peek-place, place-windows, there-place, shown-shift, page-there}

-- lists of values

pub length-values : (f : ℕ → ℕ) (a n : ℕ) → length (values f a n) ≡ n
length-values f a zero = refl
length-values f a (suc n) = ap suc (length-values f (suc a) n)

get-values : (f : ℕ → ℕ) (a n i : ℕ) → i < n → get_or (values f a n) i 0 ≡ f (a + i)
get-values f a zero i h = absurd (omega arith)
get-values f a (suc n) zero h = ap f (omega arith)
get-values f a (suc n) (suc i) h = get-values f (suc a) n i (omega arith) ∙ ap f (omega arith)

pub values-more : (f : ℕ → ℕ) (a n k : ℕ) → values f a (n + k) ≡ values f a n ++ values f (a + n) k
values-more f a zero k = let e : zero + k ≡ k = omega arith in let d : a ≡ a + zero = omega arith in ap (values f a) e
    ∙ ap (λ b. values f b k) d
values-more f a (suc n) k =
    let e : suc n + k ≡ suc (n + k) = omega arith in let d : suc a + n ≡ a + suc n = omega arith in
    ap (values f a) e ∙ ap (λ l. f a ∷ l) (values-more f (suc a) n k ∙ ap (λ b. values f (suc a) n ++ values f b k) d)

get-part : (xs : List ℕ) (b n i : ℕ) → i < n → get_or (part xs b n) i 0 ≡ get_or xs (b + i) 0
get-part xs b n i h = get_or-take n (drop b xs) i 0 h ∙ get_or-drop b xs i 0

pub values-part : (f : ℕ → ℕ) (a n : ℕ) (xs : List ℕ) (b : ℕ) → b + n ≤ length xs →
    ((i : ℕ) → i < n → f (a + i) ≡ get_or xs (b + i) 0) → values f a n ≡ part xs b n
values-part f a n xs b fits same =
    ext_get_or 0 (values f a n) (part xs b n) (length-values f a n ∙ sym (part_length xs b n fits))
    (λ i h. let low : i < n = omega (arith, length-values f a n, h) in get-values f a n i low ∙ same i low
    ∙ sym (get-part xs b n i low))

values-same : (f g : ℕ → ℕ) (a n b : ℕ) → ((i : ℕ) → i < n → f (a + i) ≡ g (b + i)) → values f a n ≡ values g b n
values-same f g a n b same =
    ext_get_or 0 (values f a n) (values g b n) (length-values f a n ∙ sym (length-values g b n))
    (λ i h. let low : i < n = omega (arith, length-values f a n, h) in get-values f a n i low ∙ same i low
    ∙ sym (get-values g b n i low))

values-one : (f : ℕ → ℕ) (a n v : ℕ) → ((i : ℕ) → i < n → f (a + i) ≡ v) → values f a n ≡ replicate n v
values-one f a n v same =
    let long : length (replicate n v) ≡ n = length-replicate n v in
    ext_get_or 0 (values f a n) (replicate n v) (length-values f a n ∙ sym long)
    (λ i h. let low : i < n = omega (arith, length-values f a n, h) in get-values f a n i low ∙ same i low
    ∙ sym (get_or-replicate n i v 0 low))

pub part-more : (xs : List ℕ) (at n k : ℕ) → part xs at (n + k) ≡ part xs at n ++ part xs (at + n) k
part-more xs at n k = take-add n k (drop at xs) ∙ ap (λ l. part xs at n ++ take k l) (drop-drop n at xs)

-- places side by side: 4000h linear addresses from a multiple of 4000h on lie in one part of the map

cell-same : (a i k : ℕ) → a % 0x4000 + i < 0x4000 → nat_lt (a + i) (0x4000 * k) ≡ nat_lt a (0x4000 * k)
cell-same a i k h = elim (cases_lt a (0x4000 * k)) [
  | inl x ↦ let y : a + i < 0x4000 * k = omega arith in
      grind (arith, nat_tests)
  | inr x ↦ grind (arith, nat_tests)
]

window-stretch : (w : List (Option ℕ)) (a i : ℕ) → a % 0x4000 + i < 0x4000 → 0xE0000 ≤ a
    → shown (slice_index_or w ((a + i - 0xE0000) / 0x4000) None) ((a + i - 0xE0000) % 0x4000)
    ≡ shift (shown (slice_index_or w ((a - 0xE0000) / 0x4000) None) ((a - 0xE0000) % 0x4000)) i
window-stretch w a i h high =
    let d = a - 0xE0000 in
    let x : a + i - 0xE0000 ≡ d + i = omega arith in
    let r : d % 0x4000 ≡ a % 0x4000 = omega arith in
    let q : (d + i) / 0x4000 ≡ d / 0x4000 = omega (arith, r, h) in
    let s : (d + i) % 0x4000 ≡ d % 0x4000 + i = omega (arith, r, h) in
    rw (x, q, s) (shown-shift _ _ i)

by-tests : (m : Memory) (a i : ℕ) → a % 0x4000 + i < 0x4000 → a + i < 0x10FFF0 → (b c d e f : Bool)
    → nat_lt a 0xC0000 ≡ b → nat_lt a 0xD0000 ≡ c → nat_lt a 0xE0000 ≡ d → nat_lt a 0xF0000 ≡ e →
    nat_lt a 0x100000 ≡ f → place m (a + i) ≡ shift (place m a) i
unfolding place
by-tests m a i h top true c d e f eb ec ed ee ef = rw (cell-same a i 0x30 h, eb) refl
by-tests m a i h top false true d e f eb ec ed ee ef = rw (cell-same a i 0x30 h, cell-same a i 0x34 h, eb, ec) refl
by-tests m a i h top false false true e f eb ec ed ee ef = rw (
  cell-same a i 0x30 h,
  cell-same a i 0x34 h,
  cell-same a i 0x38 h,
  eb,
  ec,
  ed,
) refl
by-tests m a i h top false false false true f eb ec ed ee ef = rw (
  cell-same a i 0x30 h,
  cell-same a i 0x34 h,
  cell-same a i 0x38 h,
  cell-same a i 0x3C h,
  eb,
  ec,
  ed,
  ee,
) (window-stretch m.windows a i h (grind (arith, nat_tests)))
by-tests m a i h top false false false false true eb ec ed ee ef = (let low : 0xF0000 ≤ a = grind (arith, nat_tests) in
    rw (
      cell-same a i 0x30 h,
      cell-same a i 0x34 h,
      cell-same a i 0x38 h,
      cell-same a i 0x3C h,
      cell-same a i 0x40 h,
      eb,
      ec,
      ed,
      ee,
      ef,
    ) (ap Rom (omega arith)))
by-tests m a i h top false false false false false eb ec ed ee ef = (
    let one : nat_lt (a + i) 0x10FFF0 ≡ true = grind (arith, nat_tests) in let two : nat_lt a 0x10FFF0 ≡ true =
    grind (arith, nat_tests) in
    rw (
      cell-same a i 0x30 h,
      cell-same a i 0x34 h,
      cell-same a i 0x38 h,
      cell-same a i 0x3C h,
      cell-same a i 0x40 h,
      eb,
      ec,
      ed,
      ee,
      ef,
      one,
      two,
    ) refl
    )

pub place-stretch : (m : Memory) (a i : ℕ) → a % 0x4000 + i < 0x4000 → a + i < 0x10FFF0 →
    place m (a + i) ≡ shift (place m a) i
place-stretch m a i h top = by-tests m a i h top _ _ _ _ _ refl refl refl refl refl

-- the n places from p on are the memory's
abbrev pub AreThere : Memory → Place → ℕ → Type 0
AreThere m p n = (i : ℕ) → i < n → IsThere m (shift p i)

-- the n linear addresses from a on have the places from p on
abbrev pub IsStretch : Memory → ℕ → Place → ℕ → Type 0
IsStretch m a p n = (i : ℕ) → i < n → place m (a + i) ≡ shift p i

pub stretch-there : (m : Memory) (a : ℕ) (p : Place) (n : ℕ) → Fits m → IsStretch m a p n → AreThere m p n
stretch-there m a p n f r i h = subst (IsThere m) (r i h) (there-place m (a + i) f)

pub stretch-of : (m : Memory) (a : ℕ) (p : Place) (n : ℕ) → place m a ≡ p → a % 0x4000 + n ≤ 0x4000 → a + n ≤ 0x10FFF0 →
    IsStretch m a p n
stretch-of m a p n e h top i low = place-stretch m a i (omega arith) (omega arith) ∙ ap (λ q. shift q i) e

stretch-peek : (m : Memory) (a : ℕ) (p : Place) (n i : ℕ) → IsStretch m a p n → i < n →
    peek m (a + i) ≡ byte_at m (shift p i)
stretch-peek m a p n i r h = peek-place m (a + i) ∙ ap (byte_at m) (r i h)

pub low-fits : (m : Memory) (b n : ℕ) → 0 < n → AreThere m (Low b) n → b + n ≤ length m.low
low-fits m b n h t = let last = t (n - 1) (omega arith) in omega (arith, last, h)

pub page-fits : (m : Memory) (p k n : ℕ) → 0 < n → AreThere m (Page p k) n → k + n ≤ length (page_bytes m p)
page-fits m p k n h t = let last = t (n - 1) (omega arith) in omega (arith, last.1, h)

pub stretch-read : (m : Memory) (a : ℕ) (p : Place) (n : ℕ) → 0 < n → IsStretch m a p n → AreThere m p n →
    bytes_read m a n ≡ stretch_bytes m p n
stretch-read m a (Low b) n h r t = values-part (peek m) a n m.low b (low-fits m b n h t)
    (λ i low. stretch-peek m a (Low b) n i r low)
stretch-read m a (Page p k) n h r t = values-part (peek m) a n (page_bytes m p) k (page-fits m p k n h t)
    (λ i low. stretch-peek m a (Page p k) n i r low)
stretch-read m a (Rom k) n h r t = values-same (peek m) rom a n k (λ i low. stretch-peek m a (Rom k) n i r low)
stretch-read m a Nothing n h r t = values-one (peek m) a n 0xFF (λ i low. stretch-peek m a Nothing n i r low)

-- what is written

pub none-written : (xs : List ℕ) (b : ℕ) → with_part xs b 0 [] ≡ xs
none-written xs b = let e : b + 0 ≡ b = omega arith in ap (λ k. take b xs ++ drop k xs) e ∙ take-append-drop b xs

set-part : (xs vs : List ℕ) (b v k : ℕ) → b < length xs → suc b ≤ k → take (suc b) (set xs b v)
    ++ (vs ++ drop k (set xs b v)) ≡ take b xs ++ ((v ∷ vs) ++ drop k xs)
set-part [] vs b v k h le = absurd (omega arith)
set-part (x ∷ xs) vs zero v zero h le = absurd (omega arith)
set-part (x ∷ xs) vs zero v (suc k) h le = refl
set-part (x ∷ xs) vs (suc b) v zero h le = absurd (omega arith)
set-part (x ∷ xs) vs (suc b) v (suc k) h le = ap (λ l. x ∷ l) (set-part xs vs b v k (omega arith) (omega arith))

-- a byte written, and the others behind it
pub one-more : (xs vs : List ℕ) (b v : ℕ) → b < length xs → with_part (set xs b v) (suc b) (length vs) vs
    ≡ with_part xs b (suc (length vs)) (v ∷ vs)
one-more xs vs b v h =
    let e : suc b + length vs ≡ b + suc (length vs) = omega arith in
    ap (λ k. take (suc b) (set xs b v) ++ (vs ++ drop k (set xs b v))) e
    ∙ set-part xs vs b v (b + suc (length vs)) h (omega arith)

poke-at : (m : Memory) (a v : ℕ) (p : Place) (n : ℕ) → IsStretch m a p n → 0 < n →
    poke m a v ≡ with_byte m (shift p 0) v
unfolding poke
poke-at m a v p n r h = let e : a ≡ a + 0 = omega arith in ap (λ q. with_byte m q v) (ap (place m) e ∙ r 0 h)

shift-more : (p : Place) (i : ℕ) → shift p (suc i) ≡ shift (shift p 1) i
shift-more (Low a) i = ap Low (omega arith)
shift-more (Page p k) i = ap (Page p) (omega arith)
shift-more (Rom k) i = ap Rom (omega arith)
shift-more Nothing i = refl

stretch-more : (m t : Memory) (a : ℕ) (p : Place) (n : ℕ) → t.windows ≡ m.windows → IsStretch m a p (suc n) →
    IsStretch t (suc a) (shift p 1) n
stretch-more m t a p n w r i h =
    let e : suc a + i ≡ a + suc i = omega arith in
    place-windows m t (suc a + i) w ∙ ap (place m) e ∙ r (suc i) (omega arith) ∙ shift-more p i

low-stretch : (vs : List ℕ) (m : Memory) (a b : ℕ) → IsStretch m a (Low b) (length vs) → b + length vs ≤ length m.low →
    bytes_written m a vs ≡ with_stretch m (Low b) (length vs) vs
low-stretch [] m a b r fits = ap (λ (l : List ℕ). record m { low = l }) (sym (none-written m.low b))
low-stretch (v ∷ vs) m a b r fits =
    let t : Memory = record m { low = set m.low b v } in
    let here : b + 0 ≡ b = omega arith in
    let next : b + 1 ≡ suc b = omega arith in
    let first : poke m a v ≡ t = poke-at m a v (Low b) (suc (length vs)) r (omega arith)
    ∙ ap (λ k. with_byte m (Low k) v) here in
    let stretch = subst (λ k. IsStretch t (suc a) (Low k) (length vs)) next (stretch-more m t a (Low b)
    (length vs) refl r) in
    ap (λ (x : Memory). bytes_written x (suc a) vs) first
    ∙ low-stretch vs t (suc a) (suc b) stretch (omega (arith, length-set m.low b v, fits))
    ∙ ap (λ (l : List ℕ). record m { low = l }) (one-more m.low vs b v (omega (arith, fits)))

pub same-content : (cs : List (List ℕ)) (p : ℕ) → set cs p (get_or cs p []) ≡ cs
same-content [] p = refl
same-content (c ∷ cs) zero = refl
same-content (c ∷ cs) (suc p) = ap (λ l. c ∷ l) (same-content cs p)

with_contents : Memory → List (List ℕ) → Memory
with_contents m cs = with_blocks m (record m.blocks { contents = cs })

page-stretch : (vs : List ℕ) (m : Memory) (a p k : ℕ) → IsStretch m a (Page p k) (length vs) →
    p < length m.blocks.contents →
    k + length vs ≤ length (page_bytes m p) → bytes_written m a vs ≡ with_stretch m (Page p k) (length vs) vs
unfolding with_contents
page-stretch [] m a p k r live fits =
    ap (with_contents m) (sym (ap (set m.blocks.contents p) (none-written (page_bytes m p) k)
    ∙ same-content m.blocks.contents p))
page-stretch (v ∷ vs) m a p k r live fits =
    let xs = page_bytes m p in
    let cs = m.blocks.contents in
    let t : Memory = with_blocks m (with_content m.blocks p (set xs k v)) in
    let here : k + 0 ≡ k = omega arith in
    let next : k + 1 ≡ suc k = omega arith in
    let page : page_bytes t p ≡ set xs k v = get_or-set_same cs p (set xs k v) [] live in
    let first : poke m a v ≡ t = poke-at m a v (Page p k) (suc (length vs)) r (omega arith)
    ∙ ap (λ j. with_byte m (Page p j) v) here in
    let stretch = subst (λ j. IsStretch t (suc a) (Page p j) (length vs)) next (stretch-more m t a (Page p k)
    (length vs) refl r) in
    ap (λ (x : Memory). bytes_written x (suc a) vs) first
    ∙ page-stretch vs t (suc a) p (suc k) stretch (omega (arith, length-set cs p (set xs k v), live)) (omega (
      arith,
      ap length page,
      length-set xs k v,
      fits,
    ))
    ∙ ap (λ (ys : List ℕ). with_contents m (set (set cs p (set xs k v)) p (with_part ys (suc k) (length vs) vs))) page
    ∙ ap (with_contents m) (set_twice cs p (set xs k v) (with_part (set xs k v) (suc k) (length vs) vs))
    ∙ ap (λ (ys : List ℕ). with_contents m (set cs p ys)) (one-more xs vs k v (omega (arith, fits)))

rom-stretch : (vs : List ℕ) (m : Memory) (a k : ℕ) → IsStretch m a (Rom k) (length vs) → bytes_written m a vs ≡ m
rom-stretch [] m a k r = refl
rom-stretch (v ∷ vs) m a k r =
    ap (λ (x : Memory). bytes_written x (suc a) vs) (poke-at m a v (Rom k) (suc (length vs)) r (omega arith))
    ∙ rom-stretch vs m (suc a) (k + 1) (stretch-more m m a (Rom k) (length vs) refl r)

nothing-stretch : (vs : List ℕ) (m : Memory) (a : ℕ) → IsStretch m a Nothing (length vs) → bytes_written m a vs ≡ m
nothing-stretch [] m a r = refl
nothing-stretch (v ∷ vs) m a r =
    ap (λ (x : Memory). bytes_written x (suc a) vs) (poke-at m a v Nothing (suc (length vs)) r (omega arith))
    ∙ nothing-stretch vs m (suc a) (stretch-more m m a Nothing (length vs) refl r)

pub stretch-written : (vs : List ℕ) (m : Memory) (a : ℕ) (p : Place) → 0 < length vs → IsStretch m a p (length vs) →
    AreThere m p (length vs) → bytes_written m a vs ≡ with_stretch m p (length vs) vs
stretch-written vs m a (Low b) h r t = low-stretch vs m a b r (low-fits m b (length vs) h t)
stretch-written vs m a (Page p k) h r t = (let fits = page-fits m p k (length vs) h t in
    page-stretch vs m a p k r (page-there m.blocks.contents p 0 (omega (arith, fits, h))) fits)
stretch-written vs m a (Rom k) h r t = rom-stretch vs m a k r
stretch-written vs m a Nothing h r t = nothing-stretch vs m a r

-- what is read of a stretch, or written to it, in the words of a copy

module _ (h : Held) (a n : ℕ) (p : Place) (is : IsHeld h) (at-p : place h.memory a ≡ p) (some : 0
    < n) (cell : a % 0x4000 + n ≤ 0x4000) (top : a + n ≤ 0x10FFF0) where
  stretches : IsStretch h.memory a p n
  stretches = stretch-of h.memory a p n at-p cell top

  pub all-there : AreThere h.memory p n
  all-there = stretch-there h.memory a p n is.fits stretches

  pub in-stretch : (at : ℕ) → record h { scratch = with_part h.scratch at n (stretch_bytes h.memory p n) }
      ≡ copied_in h a at n
  in-stretch at = ap (λ (xs : List ℕ). record h { scratch = with_part h.scratch at n xs })
      (sym (stretch-read h.memory a p n some stretches all-there))

  pub out-stretch : (at : ℕ) → at + n ≤ length h.scratch → record h {
    memory =
        with_stretch h.memory p n (part h.scratch at n);
  }
      ≡ copied_out h at a n
  out-stretch at fits =
      let vs = part h.scratch at n in
      let long : length vs ≡ n = part_length h.scratch at n fits in
      let back : n ≡ length vs = sym long in
      let done = stretch-written vs h.memory a p (omega (arith, some, long)) (subst
      (IsStretch h.memory a p) back stretches)
      (subst (AreThere h.memory p) back all-there) in
      ap (λ (m : Memory). record h { memory = m }) (sym (done ∙ ap (λ k. with_stretch h.memory p k vs) long))

pub rom-fits : (m : Memory) (k n : ℕ) → 0 < n → AreThere m (Rom k) n → k + n ≤ 0x10000
rom-fits m k n h t = let last = t (n - 1) (omega arith) in omega (arith, last, h)

-- one copy after another

writes-more : (xs ys : List ℕ) (m : Memory) (a : ℕ) → bytes_written m a (xs ++ ys)
    ≡ bytes_written (bytes_written m a xs) (a + length xs) ys
writes-more [] ys m a = let e : a ≡ a + 0 = omega arith in ap (λ b. bytes_written m b ys) e
writes-more (x ∷ xs) ys m a = let e : suc a + length xs ≡ a + suc (length xs) = omega arith in
    writes-more xs ys (poke m a x) (suc a) ∙ ap (λ b. bytes_written (bytes_written (poke m a x) (suc a) xs) b ys) e

pub in-none : (h : Held) (a at : ℕ) → h ≡ copied_in h a at 0
in-none h a at = ap (λ (s : List ℕ). record h { scratch = s }) (sym (none-written h.scratch at))

pub in-more : (h : Held) (a at n k : ℕ) → at + n + k ≤ length h.scratch →
    copied_in (copied_in h a at n) (a + n) (at + n) k ≡ copied_in h a at (n + k)
in-more h a at n k fits =
    ap (λ (s : List ℕ). record h { scratch = s })
    (twice h.scratch (bytes_read h.memory a n) (bytes_read h.memory (a + n) k) at n k
    (length-values (peek h.memory) a n) (length-values (peek h.memory) (a + n) k) fits
    ∙ ap (with_part h.scratch at (n + k)) (sym (values-more (peek h.memory) a n k)))

pub out-none : (h : Held) (a at : ℕ) → h ≡ copied_out h at a 0
out-none h a at = refl

pub out-more : (h : Held) (a at n k : ℕ) → at + n ≤ length h.scratch →
    copied_out (copied_out h at a n) (at + n) (a + n) k ≡ copied_out h at a (n + k)
out-more h a at n k fits =
    let e : a + n ≡ a + length (part h.scratch at n) = omega (arith, part_length h.scratch at n fits) in
    ap (λ (m : Memory). record h { memory = m })
    (ap (λ b. bytes_written (bytes_written h.memory a (part h.scratch at n)) b (part h.scratch (at + n) k)) e
    ∙ sym (ap (bytes_written h.memory a) (part-more h.scratch at n k)
    ∙ writes-more (part h.scratch at n) (part h.scratch (at + n) k) h.memory a))

-- one more value written behind others
pub one-value : (f : ℕ → ℕ) (xs : List ℕ) (at a n : ℕ) → at + n < length xs →
    set (with_part xs at n (values f a n)) (at + n) (f (a + n)) ≡ with_part xs at (n + 1) (values f a (n + 1))
one-value f xs at a n fits =
    let ys = with_part xs at n (values f a n) in
    let long : length ys ≡ length xs = length-with_part xs (values f a n) at n (omega (
      arith,
      fits,
    )) (length-values f a n) in
    sym (none-written (set ys (at + n) (f (a + n))) (suc (at + n))) ∙ one-more ys [] (at + n) (f (a + n)) (omega (
      arith,
      long,
      fits,
    ))
    ∙ twice xs (values f a n) (f (a + n) ∷ []) at n 1 (length-values f a n) refl (omega (arith, fits))
    ∙ ap (with_part xs at (n + 1)) (sym (values-more f a n 1))

rom-past : (k : ℕ) → 0x1021 ≤ k → rom k ≡ 0xFF
unfolding rom
rom-past k h = grind (arith, nat_tests)

-- the ROM's bytes up to the last that is not empty, and empty ones behind
pub rom-split : (xs : List ℕ) (at o len n : ℕ) → n ≡ min (0x1021 - o) len → at + len ≤ length xs
    → with_part (with_part xs at n (values rom o n)) (at + n) (len - n) (replicate (len - n) 0xFF)
    ≡ with_part xs at len (values rom o len)
rom-split xs at o len n e fits =
    let k = len - n in
    let whole : n + k ≡ len = omega (arith, e) in
    let long : length {A = ℕ} (replicate k 0xFF) ≡ k = length-replicate k 0xFF in
    let rest = values-one rom (o + n) k 0xFF (λ i h. rom-past (o + n + i) (omega (arith, e, h))) in
    twice xs (values rom o n) (replicate k 0xFF) at n k (length-values rom o n) long (omega (arith, whole, fits))
    ∙ ap (with_part xs at (n + k)) (sym (values-more rom o n k ∙ ap (λ l. values rom o n ++ l) rest))
    ∙ ap (λ j. with_part xs at j (values rom o j)) whole
