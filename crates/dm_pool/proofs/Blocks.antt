-- Writing one block's bytes leaves those of the others.
use Rattle.std.proofs.Common.{◌≡◌, ℕ, zero, suc, ◌+◌, ◌*◌, ◌<◌, ◌≤◌, Bool, true, false, not, List, [], ◌∷◌, ◌++◌, take, drop, set, length, get_or, replicate, Option, Some, None, refl, sym, ap, ◌∙◌, inl, inr, ◌⊎◌, arith}
use Rattle.std.specs.Prelude.{nat_lt, nat_le, ◌&&◌, if◌then◌else◌}
use Rattle.std.proofs.Math.Seq.{take-append_seam}
use Rattle.std.proofs.Math.Bool.{true≢false}
use Rattle.std.proofs.lemmas.Bool.{le-ltb, leb-true}
use Rattle.std.specs.Cmp.Derive.{both_true}
use Rattle.std.proofs.lemmas.List.{append-nil}
use Rattle.std.specs.Prelude.{min, ◌-◌, IfSome}
use Rattle.std.proofs.lemmas.List.{map-set, get_or-set_same, get_or-set_other}
use Rattle.std.proofs.lemmas.Option.{none-some, same_Some}
use Rattle.dm_region.proofs.Written.{elsewhere, written, twice}
use Rattle.dm_region.specs.Parts.{part, with_part}
use Rattle.dm_pool.specs.declared.extent.Extent.{Extent}
use Rattle.dm_pool.specs.Gaps.{overlaps, is_clear, are_free, first_passing, lowest, first_empty, next_index}
use Rattle.dm_pool.specs.Blocks.{Blocks, content, contents_of, Apart, IsPool, zeros, placed, taken, resized_from, at_base, new_base, resized, fitted, with_content}
use Rattle.std.specs.List.{refill, length_refill}
use Rattle.std.proofs.lemmas.List.{length-take, length-drop}
use Rattle.dm_pool.proofs.Gaps.{covered, hits, below_or_not}

-- the blocks' bytes, where all of them lie elsewhere
pub kept : (places : List (Option Extent)) (xs ys : List ℕ) → ((i : ℕ) (d : Extent) → get_or places i None ≡ Some d →
    content ys (Some d) ≡ content xs (Some d)) → contents_of places ys ≡ contents_of places xs
kept [] xs ys h = refl
kept (None ∷ places) xs ys h = ap (λ l. [] ∷ l) (kept places xs ys (λ i d e. h (suc i) d e))
kept (Some c ∷ places) xs ys h = ap (λ l. content ys (Some c) ∷ l) (kept places xs ys (λ i d e. h (suc i) d e))
    ∙ ap (λ b. b ∷ contents_of places xs) (h 0 c refl)

-- the same where one of them is written
pub one_written : (places : List (Option Extent)) (k : ℕ) (b : Extent) (xs ys : List ℕ) → get_or places k None ≡ Some b
    → ((i : ℕ) (d : Extent) → ¬ (i ≡ k) → get_or places i None ≡ Some d → content ys (Some d) ≡ content xs (Some d)) →
    contents_of places ys ≡ set (contents_of places xs) k (content ys (Some b))
one_written [] k b xs ys e h = absurd (none-some b e)
one_written (p ∷ places) zero b xs ys e h = ap (λ l. content ys p
    ∷ l) (kept places xs ys (λ i d f. h (suc i) d (λ z. absurd (omega (arith, z))) f))
    ∙ ap (λ q. content ys q ∷ contents_of places xs) e
one_written (None ∷ places) (suc k) b xs ys e h =
    ap (λ l. [] ∷ l) (one_written places k b xs ys e (λ i d n f. h (suc i) d (λ z. n (omega (arith, z))) f))
one_written (Some c ∷ places) (suc k) b xs ys e h = ap (λ l. content ys (Some c)
    ∷ l) (one_written places k b xs ys e (λ i d n f. h (suc i) d (λ z. n (omega (arith, z))) f))
    ∙ ap (λ x. x ∷ set (contents_of places xs) k (content ys (Some b))) (h 0 c (λ z. absurd (omega (arith, z))) refl)

pub content_of : (places : List (Option Extent)) (k : ℕ) (b : Extent) (xs : List ℕ) → get_or places k None ≡ Some b →
    get_or (contents_of places xs) k [] ≡ content xs (Some b)
content_of [] k b xs e = absurd (none-some b e)
content_of (p ∷ places) zero b xs e = ap (content xs) e
content_of (p ∷ places) (suc k) b xs e = content_of places k b xs e

-- a place that is clear is apart from each block
pub clear_apart : (places : List (Option Extent)) (p u : ℕ) → is_clear places p u ≡ true → (i : ℕ) (d : Extent) →
    get_or places i None ≡ Some d → (d.base + d.units ≤ p) ⊎ (p + u ≤ d.base)
clear_apart places p u h i d e = elim (below_or_not d.base (p + u)) [
  | inl lo ↦ elim (below_or_not p (d.base + d.units)) [
    | inl hi ↦
        absurd (true≢false (sym h ∙ covered places i d p u e (hits d p u lo hi)))
    | inr le ↦ inl le
  ]
  | inr le ↦ inr le
]

both_so : (a b : Bool) → (a && b) ≡ true → (a ≡ true) × (b ≡ true)
both_so true b e = (refl, e)
both_so false b e = absurd (true≢false (sym e))

choose : (f : ℕ → Bool) (n p q : ℕ) (b : Bool) → f p ≡ b → (if f p then Some p else first_passing f n (suc p))
    ≡ Some q → (first_passing f n (suc p) ≡ Some q → f q ≡ true) → f q ≡ true
choose f n p q true t e on = ap f (sym (same_Some p q (sym (ap (λ c. if c then Some p else first_passing f n (suc p)) t)
    ∙ e))) ∙ t
choose f n p q false t e on = on (sym (ap (λ c. if c then Some p else first_passing f n (suc p)) t) ∙ e)

pub passes : (f : ℕ → Bool) (n p q : ℕ) → first_passing f n p ≡ Some q → f q ≡ true
unfolding first_passing
passes f zero p q e = absurd (none-some q e)
passes f (suc n) p q e = choose f n p q (f p) refl e (passes f n (suc p) q)

pub within_pool : (places : List (Option Extent)) (n u p : ℕ) → are_free places n u p ≡ true → (p + u ≤ n) ×
    (is_clear places p u ≡ true)
within_pool places n u p e = let both = both_so (nat_le (p + u) n) (is_clear places p u) e in
    (leb-true (p + u) n both.0, both.1)

after_next : (places : List (Option Extent)) (c : Extent) (i : ℕ) (o : Option ℕ) → first_empty places ≡ o →
    next_index o ≡ Some i
    → ((k : ℕ) → first_empty places ≡ Some k → (k < length places) × (get_or places k None ≡ None)) →
    (i < length (Some c ∷ places)) × (get_or (Some c ∷ places) i None ≡ None)
after_next places c i None f e on = absurd (none-some i e)
after_next places c i (Some k) f e on = let z = same_Some (suc k) i e in let h = on k f in
    (omega (arith, z, h.0), ap (λ m. get_or (Some c ∷ places) m None) (sym z) ∙ h.1)

pub vacant : (places : List (Option Extent)) (i : ℕ) → first_empty places ≡ Some i → (i < length places) ×
    (get_or places i None ≡ None)
vacant [] i e = absurd (none-some i e)
vacant (None ∷ places) i e = let z = same_Some 0 i e in (
  omega (arith, z),
  ap (λ k. get_or (None ∷ places) k None) (sym z),
)
vacant (Some c ∷ places) i e = after_next places c i (first_empty places) refl e (vacant places)

pub no_place : (n i : ℕ) → let none : Option Extent = None in get_or (replicate n none) i none ≡ none
no_place zero i = refl
no_place (suc n) zero = refl
no_place (suc n) (suc i) = no_place n i

pub same_or_not : (a b : ℕ) → (a ≡ b) ⊎ (¬ (a ≡ b))
same_or_not zero zero = inl refl
same_or_not zero (suc b) = inr (λ e. absurd (omega (arith, e)))
same_or_not (suc a) zero = inr (λ e. absurd (omega (arith, e)))
same_or_not (suc a) (suc b) = elim (same_or_not a b) [
  | inl e ↦ inl (ap suc e)
  | inr n ↦
      inr (λ e. n (omega (arith, e)))
]

pub part_length : (xs : List ℕ) (P N : ℕ) → P + N ≤ length xs → length (part xs P N) ≡ N
part_length xs P N in' = omega (arith, length-take N (drop P xs), length-drop P xs)

pub set_twice : (l : List (List ℕ)) (k : ℕ) (x y : List ℕ) → set (set l k x) k y ≡ set l k y
set_twice [] k x y = refl
set_twice (z ∷ l) zero x y = refl
set_twice (z ∷ l) (suc k) x y = ap (λ m. z ∷ m) (set_twice l k x y)

-- the bytes of d stay where those of b are written
pub beside : (xs ws : List ℕ) (b d : Extent) → length ws ≡ b.units * 1024 → b.base * 1024 + b.units * 1024 ≤ length xs →
    Apart d b → content (with_part xs (b.base * 1024) (b.units * 1024) ws) (Some d) ≡ content xs (Some d)
beside xs ws b d e in' far = elsewhere xs ws (b.base * 1024) (b.units * 1024) (d.base * 1024) (d.units * 1024) e in'
    (elim far [ inl h ↦ inl (omega arith) | inr h ↦ inr (omega arith) ])

module _ (n : ℕ) (places : List (Option Extent)) (xs : List ℕ) (is : IsPool n places xs) (k : ℕ) (b : Extent) (free : k
    < length places) (inside : b.base + b.units ≤ n)
    (far : (i : ℕ) (d : Extent) → ¬ (i ≡ k) → get_or places i None ≡ Some d → Apart d b) (ws : List ℕ) (long : length ws
    ≡ b.units * 1024) where
  abbrev ys : List ℕ
  ys = with_part xs (b.base * 1024) (b.units * 1024) ws

  fits : b.base * 1024 + b.units * 1024 ≤ length xs
  fits = omega (arith, is.whole)

  at_old : (i : ℕ) (d : Extent) → ¬ (i ≡ k) → get_or (set places k (Some b)) i None ≡ Some d →
      get_or places i None ≡ Some d
  at_old i d e f = sym (get_or-set_other places k i (Some b) None e) ∙ f

  pub new_contents : contents_of (set places k (Some b)) ys ≡ set (contents_of places xs) k ws
  new_contents =
      one_written (set places k (Some b)) k b xs ys (get_or-set_same places k (Some b) None free)
      (λ i d ne f. beside xs ws b d long fits (far i d ne (at_old i d ne f)))
      ∙ ap (λ l. set l k (content ys (Some b))) (map-set (content xs) places k (Some b))
      ∙ set_twice (contents_of places xs) k (content xs (Some b)) (content ys (Some b))
      ∙ ap (λ l. set (contents_of places xs) k l) (written xs ws (b.base * 1024) (b.units * 1024) long fits)

  pub take_is : first_empty places ≡ Some k → lowest places n b.units ≡ Some b.base → ws ≡ zeros b.units
      → taken (record { units = n; places = places; contents = contents_of places xs }) b.units ≡ Some (
        k,
        record { units = n; places = set places k (Some b); contents = contents_of (set places k (Some b)) ys },
      )
  take_is e f z =
      let s : Blocks = record { units = n; places = places; contents = contents_of places xs } in
      ap (λ o. placed s b.units o (lowest places n b.units)) e ∙ ap (λ o. placed s b.units (Some k) o) f
      ∙ ap (λ l. Some (k, record { units = n; places = set places k (Some b); contents = l }))
      (ap (set (contents_of places xs) k) (sym z) ∙ sym new_contents)

  pub resize_is : (c : Extent) → get_or places k None ≡ Some c → new_base (record {
    units = n;
    places = places;
    contents = contents_of places xs;
  }) k c b.units ≡ Some b.base
      → ws ≡ fitted (content xs (Some c)) b.units
      → resized (record { units = n; places = places; contents = contents_of places xs }) k b.units
      ≡ Some (record {
        units = n;
        places = set places k (Some b);
        contents = contents_of (set places k (Some b)) ys;
      })
  resize_is c e f z =
      let s : Blocks = record { units = n; places = places; contents = contents_of places xs } in
      ap (λ o. resized_from s k b.units o) e ∙ ap (λ o. at_base s k b.units o) f
      ∙ ap (λ l. Some (record { units = n; places = set places k (Some b); contents = l }))
      (ap (set (contents_of places xs) k) (ap (λ l. fitted l b.units) (content_of places k c xs e) ∙ sym z)
      ∙ sym new_contents)

take_zeros : (n m : ℕ) → n ≤ m → take {A = ℕ} n (replicate m 0) ≡ replicate n 0
take_zeros zero m le = refl
take_zeros (suc n) zero le = absurd (omega arith)
take_zeros (suc n) (suc m) le = ap (λ l. 0 ∷ l) (take_zeros n m (omega arith))

take_more : (xs : List ℕ) (n k m : ℕ) → n ≡ length xs + k → k ≤ m → take {A = ℕ} n (xs ++ replicate m 0) ≡ xs
    ++ replicate k 0
take_more [] n k m e le = let same : n ≡ k = omega arith in ap (λ j. take {A = ℕ} j (replicate m 0)) same
    ∙ take_zeros k m le
take_more (x ∷ xs) zero k m e le = absurd (omega arith)
take_more (x ∷ xs) (suc n) k m e le = ap (λ l. x ∷ l) (take_more xs n k m (omega arith) le)

take_less : (xs r : List ℕ) (n m : ℕ) → n ≤ m → n ≤ length (take m xs) → take n (take m xs ++ r) ≡ take n xs
take_less xs r zero m le in' = refl
take_less [] r (suc n) zero le in' = absurd (omega arith)
take_less [] r (suc n) (suc m) le in' = absurd (omega arith)
take_less (x ∷ xs) r (suc n) zero le in' = absurd (omega arith)
take_less (x ∷ xs) r (suc n) (suc m) le in' = ap (λ l. x ∷ l) (take_less xs r n m (omega arith) (omega arith))

-- the bytes kept and the zeros after them
pub fitted_is : (xs : List ℕ) (b : Extent) (u kept : ℕ) → kept ≡ min b.units u →
    b.base * 1024 + b.units * 1024 ≤ length xs
    → part xs (b.base * 1024) (kept * 1024) ++ replicate ((u - kept) * 1024) 0 ≡ fitted (content xs (Some b)) u
fitted_is xs b u kept e fits =
    let P = b.base * 1024 in let own = part xs P (b.units * 1024) in let long : length own ≡ b.units * 1024 =
    part_length xs P (b.units * 1024) fits in
    elim (below_or_not b.units u) [
      | inl more ↦
          let same : kept ≡ b.units = omega arith in
          ap (λ k. part xs P (k * 1024) ++ replicate ((u - k) * 1024) 0) same
          ∙ sym (take_more own (u * 1024) ((u - b.units) * 1024) (u * 1024) (omega arith) (omega arith))
      | inr less ↦
          let same : kept ≡ u = omega arith in let none : (u - u) * 1024 ≡ 0 = omega arith in
          ap (λ k. part xs P (k * 1024) ++ replicate ((u - k) * 1024) 0) same ∙ ap (λ k. part xs P (u * 1024)
          ++ replicate k 0) none ∙ append-nil (part xs P (u * 1024))
          ∙ sym (take_less (drop P xs) (zeros u) (u * 1024) (b.units * 1024) (omega arith) (omega arith))
    ]

pub refilled : (n : ℕ) (old ws : List ℕ) → length ws ≡ n → refill n old ws ≡ ws
refilled n old ws e = ap (λ m. take m (ws ++ drop (length ws) old)) (sym e) ∙ take-append_seam ws (drop (length ws) old)

pub lent : (n : ℕ) (places : List (Option Extent)) (xs : List ℕ) → IsPool n places xs → (k : ℕ) (b : Extent) →
    get_or places k None ≡ Some b → (ws : List ℕ) → length ws ≡ b.units * 1024
    → contents_of places (with_part xs (b.base * 1024) (b.units * 1024) ws) ≡ set (contents_of places xs) k ws
lent n places xs is k b e ws long =
    let within = is.laid.within k b e in let fits : b.base * 1024 + b.units * 1024 ≤ length xs =
    omega (arith, is.whole) in
    let ys = with_part xs (b.base * 1024) (b.units * 1024) ws in
    one_written places k b xs ys e (λ i d ne f. beside xs ws b d long fits (is.laid.apart i k d b ne f e))
    ∙ ap (set (contents_of places xs) k) (written xs ws (b.base * 1024) (b.units * 1024) long fits)

-- the pool once the bytes of a block have been lent
pub lent_is : (n : ℕ) (places : List (Option Extent)) (xs : List ℕ) → IsPool n places xs → (k : ℕ) (b : Extent) →
    get_or places k None ≡ Some b → (w : List ℕ)
    → let s : Blocks = record { units = n; places = places; contents = contents_of places xs } in let old =
    get_or s.contents k [] in
    record {
      units = n;
      places = places;
      contents = contents_of places (with_part xs (b.base * 1024) (b.units * 1024)
          (refill (b.units * 1024) (part xs (b.base * 1024) (b.units * 1024)) w));
    }
    ≡ with_content s k (refill (length old) old w)
lent_is n places xs is k b e w =
    let s : Blocks = record { units = n; places = places; contents = contents_of places xs } in
    let within = is.laid.within k b e in let fits : b.base * 1024 + b.units * 1024 ≤ length xs =
    omega (arith, is.whole) in
    let own = part xs (b.base * 1024) (b.units * 1024) in let N = b.units * 1024 in
    let long : length own ≡ N = part_length xs (b.base * 1024) N fits in
    ap (λ l. record { units = n; places = places; contents = l }) (lent n places xs is k b e (refill N own w)
    (sym (length_refill N own w (sym long))))
    ∙ ap (λ m. with_content s k (refill m own w)) (sym long) ∙ ap (λ c. with_content s k (refill (length c) c w))
    (sym (content_of places k b xs e))

pub clear_without : (bs : List (Option Extent)) (k p u : ℕ) → is_clear bs p u ≡ true →
    is_clear (set bs k None) p u ≡ true
clear_without [] k p u h = h
clear_without (None ∷ bs) zero p u h = h
clear_without (Some c ∷ bs) zero p u h = (both_so (not (overlaps c p u)) (is_clear bs p u) h).1
clear_without (None ∷ bs) (suc k) p u h = clear_without bs k p u h
clear_without (Some c ∷ bs) (suc k) p u h = let both = both_so (not (overlaps c p u)) (is_clear bs p u) h in
    both_true both.0 (clear_without bs k p u both.1)

pub clear_nothing : (bs : List (Option Extent)) → is_clear bs 0 0 ≡ true
clear_nothing [] = refl
clear_nothing (None ∷ bs) = clear_nothing bs
clear_nothing (Some c ∷ bs) = both_true (ap (λ y. not (y && nat_lt 0 (c.base + c.units)))
    (le-ltb c.base 0 (omega arith))) (clear_nothing bs)

pub if_some : (o : Option ℕ) (P Q : ℕ → Type 0) → IfSome o P → ((p : ℕ) → P p → Q p) → IfSome o Q
if_some None P Q h f = tt
if_some (Some p) P Q h f = f p h

pub resized_bytes : (xs ws : List ℕ) (p q u kept : ℕ) → kept ≤ u → length ws ≡ (u - kept) * 1024 →
    p * 1024 + u * 1024 ≤ length xs → q * 1024 + kept * 1024 ≤ length xs
    → with_part (with_part xs (p * 1024) (kept * 1024) (part xs (q * 1024) (kept * 1024))) (p * 1024 + kept * 1024)
    ((u - kept) * 1024) ws ≡ with_part xs (p * 1024) (u * 1024) (part xs (q * 1024) (kept * 1024) ++ ws)
resized_bytes xs ws p q u kept le long fits own =
    let a = part xs (q * 1024) (kept * 1024) in let all : kept * 1024 + (u - kept) * 1024 ≡ u * 1024 = omega arith in
    twice xs a ws (p * 1024) (kept * 1024) ((u - kept) * 1024) (part_length xs (q * 1024) (kept * 1024) own) long
    (omega arith) ∙ ap (λ n. with_part xs (p * 1024) n (a ++ ws)) all
