-- A run of a list written over, and what stands at each index then; the places of a region by index.
use Rattle.std.proofs.Common.{◌≡◌, ℕ, zero, suc, ◌+◌, ◌-◌, ◌<◌, ◌≤◌, ◌⊎◌, inl, inr, List, [], ◌∷◌, ◌++◌, map, length, take, drop, set, get_or, replicate, Option, Some, None, refl, sym, ap, ◌∙◌, arith}
use Rattle.std.proofs.lemmas.List.{length-append, length-take, length-drop, length-map, length-replicate, take-map, drop-map, map-append, get_or_append_left, take-append-drop, drop-drop}
use Rattle.std.proofs.lemmas.Bool.{cases_lt}
use Rattle.dm_region.specs.Parts.{with_part}
use Rattle.dm_region.specs.inner.Places.{IsFilled, emptied, or_zero}
use Rattle.dm_region.specs.inner.Lends.{spliced}
use Rattle.dm_region.proofs.Bytes.{map_get}

module _ {X : Type 0} where
  -- cs with ms in place of its elements from the index p on, below the index k
  abbrev pub over : List X → ℕ → ℕ → List X → List X
  over cs p k ms = take p cs ++ (ms ++ drop k cs)

  pub over_length : (cs ms : List X) (p k n : ℕ) → k ≡ p + n → length ms ≡ n → k ≤ length cs →
      length (over cs p k ms) ≡ length cs
  over_length cs ms p k n e long within = omega (
    arith,
    length-append (take p cs) (ms ++ drop k cs),
    length-append ms (drop k cs),
    length-take p cs,
    length-drop k cs,
  )

  pub over_before : (cs rest : List X) (p i : ℕ) (d : X) → i < p → p ≤ length cs →
      get_or (take p cs ++ rest) i d ≡ get_or cs i d
  over_before cs rest zero i d lt le = absurd (omega (arith, lt))
  over_before [] rest (suc p) i d lt le = absurd (omega (arith, le))
  over_before (c ∷ cs) rest (suc p) zero d lt le = refl
  over_before (c ∷ cs) rest (suc p) (suc i) d lt le = over_before cs rest p i d (omega (arith, lt)) (omega (arith, le))

  past : (cs ms : List X) (k i : ℕ) (d : X) → length ms ≡ k → k ≤ i → k ≤ length cs →
      get_or (ms ++ drop k cs) i d ≡ get_or cs i d
  past cs [] zero i d e le in' = refl
  past cs [] (suc k) i d e le in' = absurd (omega (arith, e))
  past cs (m ∷ ms) zero i d e le in' = absurd (omega (arith, e))
  past cs (m ∷ ms) (suc k) zero d e le in' = absurd (omega (arith, le))
  past [] (m ∷ ms) (suc k) (suc i) d e le in' = absurd (omega (arith, in'))
  past (c ∷ cs) (m ∷ ms) (suc k) (suc i) d e le in' = past cs ms k i d (omega (arith, e)) (omega (
    arith,
    le,
  )) (omega (arith, in'))

  pub over_behind : (cs ms : List X) (p k i : ℕ) (d : X) → k ≡ p + length ms → k ≤ i → k ≤ length cs →
      get_or (over cs p k ms) i d ≡ get_or cs i d
  over_behind cs ms zero k i d e le in' = past cs ms k i d (omega (arith, e)) le in'
  over_behind [] ms (suc p) k i d e le in' = absurd (omega (arith, in', e))
  over_behind (c ∷ cs) ms (suc p) zero i d e le in' = absurd (omega (arith, e))
  over_behind (c ∷ cs) ms (suc p) (suc k) zero d e le in' = absurd (omega (arith, le))
  over_behind (c ∷ cs) ms (suc p) (suc k) (suc i) d e le in' =
      over_behind cs ms p k i d (omega (arith, e)) (omega (arith, le)) (omega (arith, in'))

  pub over_within : (cs ms rest : List X) (p i j : ℕ) (d : X) → i ≡ p + j → j < length ms → p ≤ length cs →
      get_or (take p cs ++ (ms ++ rest)) i d ≡ get_or ms j d
  over_within cs ms rest zero i j d e lt in' = let same : i ≡ j = omega (arith, e) in
      ap (λ n. get_or (ms ++ rest) n d) same ∙ get_or_append_left ms rest d j lt
  over_within [] ms rest (suc p) i j d e lt in' = absurd (omega (arith, in'))
  over_within (c ∷ cs) ms rest (suc p) zero j d e lt in' = absurd (omega (arith, e))
  over_within (c ∷ cs) ms rest (suc p) (suc i) j d e lt in' =
      over_within cs ms rest p i j d (omega (arith, e)) lt (omega (arith, in'))

  first_step : (cs ms : List X) (k : ℕ) (y : X) → length ms ≡ k → k < length cs → set (ms ++ drop k cs) k y ≡ (ms ++ y
      ∷ []) ++ drop (suc k) cs
  first_step [] ms k y e lt = absurd (omega (arith, lt))
  first_step (c ∷ cs) [] zero y e lt = refl
  first_step (c ∷ cs) [] (suc k) y e lt = absurd (omega (arith, e))
  first_step (c ∷ cs) (m ∷ ms) zero y e lt = absurd (omega (arith, e))
  first_step (c ∷ cs) (m ∷ ms) (suc k) y e lt = ap (λ l. m ∷ l) (first_step cs ms k y (omega (arith, e)) (omega (
    arith,
    lt,
  )))

  -- one more element is written behind those that were
  pub over_step : (cs ms : List X) (p k : ℕ) (y : X) → k ≡ p + length ms → k < length cs →
      set (over cs p k ms) k y ≡ over cs p (suc k) (ms ++ y ∷ [])
  over_step cs ms zero k y e lt = first_step cs ms k y (omega (arith, e)) lt
  over_step [] ms (suc p) k y e lt = absurd (omega (arith, lt))
  over_step (c ∷ cs) ms (suc p) zero y e lt = absurd (omega (arith, e))
  over_step (c ∷ cs) ms (suc p) (suc k) y e lt = ap (λ l. c ∷ l) (over_step cs ms p k y (omega (
    arith,
    e,
  )) (omega (arith, lt)))

  pub replicate_more : (i n : ℕ) (x : X) → n ≡ suc i → replicate n x ≡ replicate i x ++ x ∷ []
  replicate_more zero n x e = ap (λ m. replicate m x) e
  replicate_more (suc i) zero x e = absurd (omega (arith, e))
  replicate_more (suc i) (suc n) x e = ap (λ l. x ∷ l) (replicate_more i n x (omega (arith, e)))

  pub take_more : (xs : List X) (i n : ℕ) (d : X) → n ≡ suc i → i < length xs → take n xs ≡ take i xs ++ get_or xs i d
      ∷ []
  take_more [] i n d e lt = absurd (omega (arith, lt))
  take_more (x ∷ xs) zero n d e lt = ap (λ m. take m (x ∷ xs)) e
  take_more (x ∷ xs) (suc i) zero d e lt = absurd (omega (arith, e))
  take_more (x ∷ xs) (suc i) (suc n) d e lt = ap (λ l. x ∷ l) (take_more xs i n d (omega (arith, e)) (omega (
    arith,
    lt,
  )))

  pub none_in : (n i : ℕ) → get_or (replicate {A = Option X} n None) i None ≡ None
  none_in zero i = refl
  none_in (suc n) zero = refl
  none_in (suc n) (suc i) = none_in n i

  -- places that all hold values are a run
  pub run_of : (cs : List (Option X)) (p n : ℕ) → p + n ≤ length cs → ((i : ℕ) → p ≤ i → i < p + n → IsFilled cs i) →
      (xs : List X) × (take n (drop p cs) ≡ map Some xs)
  run_of cs zero zero le h = ([], refl)
  run_of [] zero (suc n) le h = absurd (omega (arith, le))
  run_of (c ∷ cs) zero (suc n) le h =
      let first = h zero (omega arith) (omega arith) in
      let more = run_of cs zero n (omega (arith, le)) (λ i a b. h (suc i) (omega (arith, a)) (omega (arith, b))) in (
        first.0 ∷ more.0,
        ap (λ (o : Option X). o ∷ take n cs) first.1 ∙ ap (λ (l : List (Option X)). Some first.0
            ∷ l) more.1,
      )
  run_of [] (suc p) n le h = absurd (omega (arith, le))
  run_of (c ∷ cs) (suc p) n le h = run_of cs p n (omega (arith, le)) (λ i a b. h (suc i) (omega (
    arith,
    a,
  )) (omega (arith, b)))

  none_of : (cs : List (Option X)) → ((i : ℕ) → i < length cs → get_or cs i None ≡ None) →
      cs ≡ replicate (length cs) None
  none_of [] h = refl
  none_of (c ∷ cs) h = ap (λ (o : Option X). o ∷ cs) (h zero (omega arith)) ∙ ap (λ (l : List (Option X)). None
      ∷ l) (none_of cs (λ i lt. h (suc i) (omega (arith, lt))))

  pub all_none : (cs : List (Option X)) (n : ℕ) → length cs ≡ n → ((i : ℕ) → i < n → get_or cs i None ≡ None) →
      cs ≡ replicate n None
  all_none cs n e h = none_of cs (λ i lt. h i (omega (arith, lt, e))) ∙ ap (λ m. replicate m None) e

some_bytes : (ws : List ℕ) → map or_zero (map Some ws) ≡ ws
some_bytes [] = refl
some_bytes (w ∷ ws) = ap (λ l. w ∷ l) (some_bytes ws)

-- what is read from places that hold values is what they stand for
pub bytes_in : (cs : List (Option ℕ)) (ys : List ℕ) (p n : ℕ) → take n (drop p cs) ≡ map Some ys →
    take n (drop p (map or_zero cs)) ≡ ys
bytes_in cs ys p n e = ap (take n) (drop-map or_zero p cs) ∙ take-map or_zero n (drop p cs) ∙ ap (map or_zero) e
    ∙ some_bytes ys

pub none_bytes : (n : ℕ) → map or_zero (replicate n None) ≡ replicate n 0
none_bytes zero = refl
none_bytes (suc n) = ap (λ l. 0 ∷ l) (none_bytes n)

-- empty places stand for zeros
pub zeros_in : (cs : List (Option ℕ)) (p n : ℕ) → p + n ≤ length cs → ((i : ℕ) → p ≤ i → i < p + n →
    get_or cs i None ≡ None) → take n (drop p (map or_zero cs)) ≡ replicate n 0
zeros_in cs zero zero le h = refl
zeros_in [] zero (suc n) le h = absurd (omega (arith, le))
zeros_in (c ∷ cs) zero (suc n) le h = ap (λ (o : Option ℕ). or_zero o ∷ take n (map or_zero cs))
    (h zero (omega arith) (omega arith)) ∙ ap (λ l. 0 ∷ l) (zeros_in cs zero n (omega (
      arith,
      le,
    )) (λ i a b. h (suc i) (omega (arith, a)) (omega (arith, b))))
zeros_in [] (suc p) n le h = absurd (omega (arith, le))
zeros_in (c ∷ cs) (suc p) n le h = zeros_in cs p n (omega (arith, le)) (λ i a b. h (suc i) (omega (
  arith,
  a,
)) (omega (arith, b)))

-- a part written over by itself
pub same_part : (xs : List ℕ) (p n : ℕ) → with_part xs p n (take n (drop p xs)) ≡ xs
same_part xs p n = ap (λ l. take p xs ++ (take n (drop p xs) ++ l)) (sym (drop-drop n p xs))
    ∙ ap (λ l. take p xs ++ l) (take-append-drop n (drop p xs)) ∙ take-append-drop p xs

-- values are put into places from p on, n of them
module _ (cs : List (Option ℕ)) (ws : List ℕ) (p n : ℕ) (long : length ws ≡ n) (fits : p + n ≤ length cs) where
  abbrev pub put : List (Option ℕ)
  put = spliced cs p n ws

  count : length (map Some ws) ≡ n
  count = length-map ws Some ∙ long

  pub put_length : length put ≡ length cs
  put_length = over_length cs (map Some ws) p (p + n) n refl count fits

  pub put_before : (i : ℕ) → i < p → get_or put i None ≡ get_or cs i None
  put_before i lt = over_before cs (map Some ws ++ drop (p + n) cs) p i None lt (omega (arith, fits))

  pub put_behind : (i : ℕ) → p + n ≤ i → get_or put i None ≡ get_or cs i None
  put_behind i le = over_behind cs (map Some ws) p (p + n) i None (omega (arith, count)) le (omega (arith, fits))

  pub put_in : (i : ℕ) → p ≤ i → i < p + n → IsFilled put i
  put_in i le lt =
      let j = i - p in
      let at = over_within cs (map Some ws) (drop (p + n) cs) p i j None (omega (arith, le)) (omega (
        arith,
        count,
        le,
        lt,
      )) (omega (arith, fits)) in
      let there = map_get ws j (omega (arith, long, le, lt)) in
      (there.0, at ∙ there.1)

  -- a place that held a value, or one among those that values were put into, holds one
  pub put_filled : (i : ℕ) → IsFilled cs i → IsFilled put i
  put_filled i h = elim (cases_lt i p) [
    | inl lt ↦ (h.0, put_before i lt ∙ h.1)
    | inr le ↦ elim (cases_lt i (p + n)) [ inl lt ↦ put_in i le lt | inr far ↦ (h.0, put_behind i far ∙ h.1) ]
  ]

  pub put_bytes_are : map or_zero put ≡ with_part (map or_zero cs) p n ws
  put_bytes_are =
      map-append or_zero (take p cs) (map Some ws ++ drop (p + n) cs)
      ∙ ap (λ (l : List ℕ). map or_zero (take p cs) ++ l) (map-append or_zero (map Some ws) (drop (p + n) cs))
      ∙ ap (λ (l : List ℕ). map or_zero (take p cs) ++ (l ++ map or_zero (drop (p + n) cs))) (some_bytes ws)
      ∙ ap (λ (l : List ℕ). l ++ (ws ++ map or_zero (drop (p + n) cs))) (sym (take-map or_zero p cs))
      ∙ ap (λ (l : List ℕ). take p (map or_zero cs) ++ (ws ++ l)) (sym (drop-map or_zero (p + n) cs))

-- the n places from p on are emptied
module _ {X : Type 0} (cs : List (Option X)) (p n : ℕ) (fits : p + n ≤ length cs) where
  none_count : length (replicate {A = Option X} n None) ≡ n
  none_count = length-replicate {A = Option X} n None

  pub emptied_length : length (emptied cs p n) ≡ length cs
  emptied_length = over_length cs (replicate n None) p (p + n) n refl none_count fits

  pub emptied_before : (i : ℕ) → i < p → get_or (emptied cs p n) i None ≡ get_or cs i None
  emptied_before i lt = over_before cs (replicate n None ++ drop (p + n) cs) p i None lt (omega (arith, fits))

  pub emptied_behind : (i : ℕ) → p + n ≤ i → get_or (emptied cs p n) i None ≡ get_or cs i None
  emptied_behind i le = over_behind cs (replicate n None) p (p + n) i None (omega (arith, none_count)) le (omega (
    arith,
    fits,
  ))

  emptied_in : (i : ℕ) → p ≤ i → i < p + n → get_or (emptied cs p n) i None ≡ None
  emptied_in i le lt =
      let j = i - p in
      over_within cs (replicate n None) (drop (p + n) cs) p i j None (omega (arith, le)) (omega (
        arith,
        none_count,
        le,
        lt,
      )) (omega (arith, fits)) ∙ none_in n j

  -- a place that was empty, or one of those, is empty
  pub emptied_none : (i : ℕ) → (get_or cs i None ≡ None) ⊎ ((p ≤ i) × (i < p + n)) →
      get_or (emptied cs p n) i None ≡ None
  emptied_none i h = elim (cases_lt i p) [
    | inl lt ↦ elim h [ inl e ↦ emptied_before i lt ∙ e | inr there ↦ absurd (omega (arith, lt, there.0)) ]
    | inr le ↦ elim (cases_lt i (p + n)) [
      | inl lt ↦ emptied_in i le lt
      | inr far ↦ elim h [
        | inl e ↦ emptied_behind i far
            ∙ e
        | inr there ↦ absurd (omega (arith, far, there.1))
      ]
    ]
  ]

-- the loops that put values into empty places: i of them are done
module _ (cs : List (Option ℕ)) (p i n : ℕ) (more : i < n) (fits : p + n ≤ length cs) where
  at_next : (ws : List ℕ) → length ws ≡ i → (p + i < length (spliced cs p i ws)) ×
      (get_or (spliced cs p i ws) (p + i) None ≡ get_or cs (p + i) None)
  at_next ws long =
      let room : p + i ≤ length cs = omega (arith, more, fits) in
      (omega (arith, put_length cs ws p i long room, more, fits), put_behind cs ws p i long room (p + i) (omega arith))

  next_put : (ws vs : List ℕ) (v : ℕ) → length ws ≡ i → vs ≡ ws ++ v ∷ [] → set (spliced cs p i ws) (p + i) (Some v)
      ≡ spliced cs p (i + 1) vs
  next_put ws vs v long e =
      let next : suc (p + i) ≡ p + (i + 1) = omega arith in
      over_step cs (map Some ws) p (p + i) (Some v) (omega (arith, length-map ws Some, long)) (omega (
        arith,
        more,
        fits,
      ))
      ∙ ap (λ k. over cs p k (map Some ws ++ Some v ∷ [])) next
      ∙ ap (over cs p (p + (i + 1))) (sym (map-append Some ws (v ∷ [])) ∙ ap (map Some) (sym e))

  pub zeros_next : (p + i < length (spliced cs p i (replicate i 0))) ×
      (get_or (spliced cs p i (replicate i 0)) (p + i) None ≡ get_or cs (p + i) None)
  zeros_next = at_next (replicate i 0) (length-replicate i 0)

  pub zeros_put : set (spliced cs p i (replicate i 0)) (p + i) (Some 0) ≡ spliced cs p (i + 1) (replicate (i + 1) 0)
  zeros_put = next_put (replicate i 0) (replicate (i + 1) 0) 0 (length-replicate i 0)
      (replicate_more i (i + 1) 0 (omega arith))

  pub bytes_next : (xs : List ℕ) → n ≡ length xs → (p + i < length (spliced cs p i (take i xs))) ×
      (get_or (spliced cs p i (take i xs)) (p + i) None ≡ get_or cs (p + i) None)
  bytes_next xs e = at_next (take i xs) (omega (arith, length-take i xs, e, more))

  pub bytes_put : (xs : List ℕ) → n ≡ length xs → set (spliced cs p i (take i xs)) (p + i) (Some (get_or xs i 0))
      ≡ spliced cs p (i + 1) (take (i + 1) xs)
  bytes_put xs e = next_put (take i xs) (take (i + 1) xs) (get_or xs i 0) (omega (
    arith,
    length-take i xs,
    e,
    more,
  )) (take_more xs i (i + 1) 0 (omega arith) (omega (arith, e, more)))

-- the loop that empties places: i of them are done
module _ {X : Type 0} (cs : List (Option X)) (p i n : ℕ) (more : i < n) (fits : p + n ≤ length cs) where
  pub next_filled : IsFilled cs (p + i) → IsFilled (emptied cs p i) (p + i)
  next_filled h = (h.0, emptied_behind cs p i (omega (arith, more, fits)) (p + i) (omega arith) ∙ h.1)

  pub next_emptied : set (emptied cs p i) (p + i) None ≡ emptied cs p (i + 1)
  next_emptied =
      let next : suc (p + i) ≡ p + (i + 1) = omega arith in
      over_step cs (replicate i None) p (p + i) None (omega (arith, length-replicate {A = Option X} i None))
      (omega (arith, more, fits))
      ∙ ap (λ k. over cs p k (replicate i None ++ None ∷ [])) next
      ∙ ap (over cs p (p + (i + 1))) (sym (replicate_more i (i + 1) None (omega arith)))
