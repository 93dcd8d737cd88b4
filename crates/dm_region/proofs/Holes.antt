-- The places of a region with a hole.
use Rattle.std.proofs.Common.{◌≡◌, ℕ, ◌+◌, ◌-◌, ◌<◌, ◌≤◌, ◌⊎◌, inl, inr, List, ◌++◌, map, length, take, drop, replicate, Option, None, refl, sym, ap, ◌∙◌, arith}
use Rattle.std.proofs.lemmas.Bool.{cases_lt}
use Rattle.std.proofs.lemmas.List.{length-map, length-replicate, length-append, take-replicate, drop-replicate, drop_all, length-drop, take_all, append_assoc, append-nil}
use Rattle.std.proofs.Math.Seq.{take-append-add}
use Rattle.std.specs.List.{refill, length_refill}
use Rattle.dm_region.specs.Holes.{Holed}
use Rattle.dm_region.specs.Parts.{part, with_part}
use Rattle.dm_region.specs.inner.Lends.{spliced}
use Rattle.dm_region.specs.inner.Places.{somes, IsFilled, IsRun, IsEmptyRun, or_zero, IsHoled, emptied}
use Rattle.dm_region.proofs.Places.{somes-map}
use Rattle.dm_region.proofs.Written.{part_length}
use Rattle.dm_region.proofs.Runs.{run_of, none_in, all_none, none_bytes, zeros_in, same_part, bytes_in, put_length, put_before, put_behind, put_in, put_filled, put_bytes_are, emptied_length, emptied_behind, emptied_none}

-- the len places from p on are none of those from a on, below b
abbrev pub Misses : ℕ → ℕ → ℕ → ℕ → Type 0
Misses a b p len = (p + len ≤ a) ⊎ ((b ≤ p) ⊎ (b ≤ a))

module _ (cs : List (Option ℕ)) (a b : ℕ) (h : IsHoled cs a b) where
  filled_off : (p len i : ℕ) → p + len ≤ length cs → Misses a b p len → p ≤ i → i < p + len → IsFilled cs i
  filled_off p len i fits off le lt = elim off [
    | inl under ↦ h.below i (omega (arith, lt, under))
    | inr more ↦ elim more [
      | inl over ↦ h.above i (omega (arith, le, over)) (omega (arith, lt, fits))
      | inr none ↦ elim (cases_lt i a) [
        | inl under ↦ h.below i under
        | inr over ↦
            h.above i (omega (arith, none, over)) (omega (arith, lt, fits))
      ]
    ]
  ]

  pub run_off : (p len : ℕ) → p + len ≤ length cs → Misses a b p len → IsRun cs p len
  run_off p len fits off = (fits, run_of cs p len fits (λ i le lt. filled_off p len i fits off le lt))

  pub hole_run : a ≤ b → b ≤ length cs → (p n : ℕ) → a ≤ p → p + n ≤ b → IsEmptyRun cs p n
  hole_run ordered within p n under over = (
    omega (arith, within, over),
    λ i le lt. h.hole i (omega (arith, le, under)) (omega (arith, lt, over)),
  )

  pub hole_zeros : (p n : ℕ) → a ≤ p → p + n ≤ b → b ≤ length cs → part (map or_zero cs) p n ≡ replicate n 0
  hole_zeros p n under over within = zeros_in cs p n (omega (arith, over, within)) (λ i le lt. h.hole i (omega (
    arith,
    le,
    under,
  )) (omega (arith, lt, over)))

  -- as many values written over values leave the hole as it was
  pub put_off : (ws : List ℕ) (p n : ℕ) (long : length ws ≡ n) (fits : p + n ≤ length cs) → Misses a b p n →
      IsHoled (spliced cs p n ws) a b
  put_off ws p n long fits off = record {
    below = λ i lt. put_filled cs ws p n long fits i (h.below i lt);
    hole = λ i le lt. elim off [
      | inl under ↦ put_behind cs ws p n long fits i (omega (arith, le, under)) ∙ h.hole i le lt
      | inr more ↦ elim more [
        | inl over ↦ put_before cs ws p n long fits i (omega (arith, lt, over)) ∙ h.hole i le lt
        | inr none ↦ absurd (omega (arith, le, lt, none))
      ]
    ];
    above = λ i le lt. put_filled cs ws p n long fits i (h.above i le (omega (
      arith,
      lt,
      put_length cs ws p n long fits,
    )));
  }

  module _ (within : b ≤ length cs) where
    -- zeros put into the first n places of the hole
    module _ (n c : ℕ) (e : a + n ≡ c) (le' : c ≤ b) where
      fits : a + n ≤ length cs
      fits = omega (arith, e, le', within)

      pub up_holed : IsHoled (spliced cs a n (replicate n 0)) c b
      up_holed = let ws : List ℕ = replicate n 0 in let long : length ws ≡ n = length-replicate n 0 in record {
        below = λ i lt. elim (cases_lt i a) [
          | inl under ↦ put_filled cs ws a n long fits i (h.below i under)
          | inr le ↦
              put_in cs ws a n long fits i le (omega (arith, lt, e))
        ];
        hole = λ i le lt. put_behind cs ws a n long fits i (omega (arith, le, e)) ∙ h.hole i (omega (arith, le, e)) lt;
        above = λ i le lt. put_filled cs ws a n long fits i (h.above i le (omega (
          arith,
          lt,
          put_length cs ws a n long fits,
        )));
      }

      pub up_length : length (spliced cs a n (replicate n 0)) ≡ length cs
      up_length = put_length cs (replicate n 0) a n (length-replicate n 0) fits

      pub up_bytes : map or_zero (spliced cs a n (replicate n 0)) ≡ map or_zero cs
      up_bytes =
          put_bytes_are cs (replicate n 0) a n (length-replicate n 0) fits
          ∙ ap (with_part (map or_zero cs) a n) (sym (hole_zeros a n (omega arith) (omega (arith, e, le')) within))
          ∙ same_part (map or_zero cs) a n

    -- zeros put into the last n places of the hole
    module _ (n c : ℕ) (e : c + n ≡ b) (le' : a ≤ c) where
      end_fits : c + n ≤ length cs
      end_fits = omega (arith, e, within)

      pub down_holed : IsHoled (spliced cs c n (replicate n 0)) a c
      down_holed = let ws : List ℕ = replicate n 0 in let long : length ws ≡ n = length-replicate n 0 in record {
        below = λ i lt. put_filled cs ws c n long end_fits i (h.below i lt);
        hole = λ i le lt. put_before cs ws c n long end_fits i lt ∙ h.hole i le (omega (arith, lt, e));
        above = λ i le lt. elim (cases_lt i b) [
          | inl under ↦ put_in cs ws c n long end_fits i le (omega (
            arith,
            under,
            e,
          ))
          | inr over ↦ put_filled cs ws c n long end_fits i (h.above i over (omega (
            arith,
            lt,
            put_length cs ws c n long end_fits,
          )))
        ];
      }

      pub down_length : length (spliced cs c n (replicate n 0)) ≡ length cs
      down_length = put_length cs (replicate n 0) c n (length-replicate n 0) end_fits

      pub down_bytes : map or_zero (spliced cs c n (replicate n 0)) ≡ map or_zero cs
      down_bytes =
          put_bytes_are cs (replicate n 0) c n (length-replicate n 0) end_fits
          ∙ ap (with_part (map or_zero cs) c n) (sym (hole_zeros c n le' (omega (arith, e)) within))
          ∙ same_part (map or_zero cs) c n

  -- what the borrower of a part leaves in its places
  module _ (p n : ℕ) (w : List ℕ) (fits : p + n ≤ length cs) (off : Misses a b p n) where
    run : IsRun cs p n
    run = run_off p n fits off

    old_is : somes (take n (drop p cs)) ≡ part (map or_zero cs) p n
    old_is = ap somes run.1.1 ∙ somes-map run.1.0 ∙ sym (bytes_in cs run.1.0 p n run.1.1)

    long : length (refill n (somes (take n (drop p cs))) w) ≡ n
    long = sym (length_refill n (somes (take n (drop p cs))) w (omega (
      arith,
      ap length old_is,
      part_length (map or_zero cs) p n (omega (arith, fits, length-map cs or_zero)),
    )))

    pub left_holed : IsHoled (spliced cs p n (refill n (somes (take n (drop p cs))) w)) a b
    left_holed = put_off (refill n (somes (take n (drop p cs))) w) p n long fits off

    pub left_count : length (spliced cs p n (refill n (somes (take n (drop p cs))) w)) ≡ length cs
    left_count = put_length cs (refill n (somes (take n (drop p cs))) w) p n long fits

    pub left_bytes : map or_zero (spliced cs p n (refill n (somes (take n (drop p cs))) w))
        ≡ with_part (map or_zero cs) p n (refill n (part (map or_zero cs) p n) w)
    left_bytes = put_bytes_are cs (refill n (somes (take n (drop p cs))) w) p n long fits
        ∙ ap (λ (l : List ℕ). with_part (map or_zero cs) p n (refill n l w)) old_is

-- a region of n zeros that is all hole
pub hollow_holed : (n : ℕ) → IsHoled (replicate {A = Option ℕ} n None) 0 n
hollow_holed n = record {
  below = λ i lt. absurd (omega (arith, lt));
  hole = λ i le lt. none_in n i;
  above = λ i le lt. absurd (omega (arith, le, lt, length-replicate {A = Option ℕ} n None));
}

-- a region that begins with the bytes xs and ends with ys, with a hole of m places between them
module _ (xs ys : List ℕ) (n m to : ℕ) (e : n ≡ length xs + m + length ys) (at : to ≡ length xs + m) where
  all_long : length (replicate {A = Option ℕ} n None) ≡ n
  all_long = length-replicate {A = Option ℕ} n None

  abbrev first : List (Option ℕ)
  first = spliced (replicate n None) 0 (length xs) xs

  front_fits : 0 + length xs ≤ length (replicate {A = Option ℕ} n None)
  front_fits = omega (arith, all_long, e)

  first_long : length first ≡ n
  first_long = put_length (replicate n None) xs 0 (length xs) refl front_fits ∙ all_long

  pub back_empty : IsEmptyRun (spliced (replicate n None) 0 (length xs) xs) to (length ys)
  back_empty = (
    omega (arith, first_long, e, at),
    λ i le lt. put_behind (replicate n None) xs 0 (length xs) refl front_fits i (omega (arith, le, at)) ∙ none_in n i,
  )

  pub ends_holed : IsHoled (spliced (spliced (replicate n None) 0 (length xs) xs) to (length ys) ys) (length xs) to
  ends_holed = let room = back_empty.0 in record {
    below = λ i lt. put_filled first ys to (length ys) refl room i (put_in (replicate n None) xs 0
        (length xs) refl front_fits i (omega arith) (omega (arith, lt)));
    hole = λ i le lt. put_before first ys to (length ys) refl room i lt
        ∙ put_behind (replicate n None) xs 0 (length xs) refl front_fits i (omega (arith, le)) ∙ none_in n i;
    above = λ i le lt. put_in first ys to (length ys) refl room i le (omega (
      arith,
      lt,
      put_length first ys to (length ys) refl room,
      first_long,
      e,
      at,
    ));
  }

  pub ends_long : length (spliced (spliced (replicate n None) 0 (length xs) xs) to (length ys) ys) ≡ n
  ends_long = put_length first ys to (length ys) refl back_empty.0 ∙ first_long

  zeros_behind : drop (0 + length xs) (replicate {A = ℕ} n 0) ≡ replicate (m + length ys) 0
  zeros_behind = drop-replicate (0 + length xs) n 0 ∙ (let same : n - (0 + length xs) ≡ m + length ys =
      omega (arith, e) in ap (λ k. replicate k 0) same)

  pub ends_bytes : map or_zero (spliced (spliced (replicate n None) 0 (length xs) xs) to (length ys) ys) ≡ xs
      ++ (replicate m 0 ++ ys)
  ends_bytes =
      let front : map or_zero first ≡ xs ++ replicate (m + length ys) 0
      = put_bytes_are (replicate n None) xs 0 (length xs) refl front_fits
      ∙ ap (λ (l : List ℕ). with_part l 0 (length xs) xs) (none_bytes n) ∙ ap (λ (l : List ℕ). xs
      ++ l) zeros_behind in
      let count : length (xs ++ replicate {A = ℕ} (m + length ys) 0) ≡ n =
      omega (
        arith,
        length-append xs (replicate (m + length ys) 0),
        length-replicate {A = ℕ} (m + length ys) 0,
        e,
      ) in
      let kept : take to (xs ++ replicate (m + length ys) 0) ≡ xs ++ replicate m 0
      = ap (λ k. take k (xs ++ replicate (m + length ys) 0)) at ∙ take-append-add xs (replicate (m + length ys) 0) m
      ∙ ap (λ (l : List ℕ). xs ++ l) (take-replicate m (m + length ys) 0 (omega arith)) in
      put_bytes_are first ys to (length ys) refl back_empty.0
      ∙ ap (λ (l : List ℕ). with_part l to (length ys) ys) front
      ∙ ap (λ (l : List ℕ). l ++ (ys ++ drop (to + length ys) (xs ++ replicate (m + length ys) 0))) kept
      ∙ ap (λ (l : List ℕ). (xs ++ replicate m 0) ++ (ys ++ l)) (drop_all (to + length ys) (xs
      ++ replicate (m + length ys) 0) (omega (arith, count, e, at)))
      ∙ ap (λ (l : List ℕ). (xs ++ replicate m 0) ++ l) (append-nil ys)
      ∙ append_assoc xs (replicate m 0) ys

-- the places of a region with a hole are all empty once those before and behind it are emptied
pub both_emptied : (cs : List (Option ℕ)) (a b n : ℕ) → IsHoled cs a b → a ≤ b → b ≤ n → length cs ≡ n →
    emptied (emptied cs 0 a) b (n - b) ≡ replicate n None
both_emptied cs a b n h le within e =
    let fits : 0 + a ≤ length cs = omega (arith, e, le, within) in
    let one = emptied_length cs 0 a fits in
    let room : b + (n - b) ≤ length (emptied cs 0 a) = omega (arith, one, e, within) in
    all_none (emptied (emptied cs 0 a) b (n - b)) n (emptied_length (emptied cs 0 a) b (n - b) room ∙ one ∙ e) (λ i lt.
    emptied_none (emptied cs 0 a) b (n - b) room i (elim (cases_lt i b) [
      | inl under ↦ inl (emptied_none cs 0 a fits i (elim (cases_lt i a) [
        | inl low ↦
            inr (omega arith, omega (arith, low))
        | inr high ↦ inl (h.hole i high under)
      ]))
      | inr over ↦ inr (over, omega (arith, lt, within))
    ]))

-- the places behind the hole hold values once those before it are emptied
pub still_filled : (cs : List (Option ℕ)) (a b n : ℕ) → IsHoled cs a b → a ≤ b → b ≤ n → length cs ≡ n
    → (b + (n - b) ≤ length (emptied cs 0 a)) × ((i : ℕ) → b ≤ i → i < b + (n - b) → IsFilled (emptied cs 0 a) i)
still_filled cs a b n h le within e =
    let fits : 0 + a ≤ length cs = omega (arith, e, le, within) in (
      omega (arith, emptied_length cs 0 a fits, e, within),
      λ i over lt. let x = h.above i over (omega (
        arith,
        lt,
        e,
        within,
      )) in (x.0, emptied_behind cs 0 a fits i (omega (arith, over, le)) ∙ x.1),
    )

-- the bytes of a region before and behind its hole, with zeros between them, are all of its bytes
pub whole_of : (cs : List (Option ℕ)) (a b n : ℕ) (xs ys : List ℕ) → IsHoled cs a b → a ≤ b → b ≤ n → length cs ≡ n →
    xs ≡ part (map or_zero cs) 0 a → ys ≡ part (map or_zero cs) b (n - b)
    → let h : Holed = record {
      bytes = xs ++ (replicate (n - length xs - length ys) 0 ++ ys);
      from = length xs;
      to = n - length ys;
    } in h ≡ record { bytes = map or_zero cs; from = a; to = b }
whole_of cs a b n xs ys h le within e front last =
    let bs = map or_zero cs in
    let count : length bs ≡ n = length-map cs or_zero ∙ e in
    let one : length xs ≡ a = ap length front ∙ part_length bs 0 a (omega (arith, count, le, within)) in
    let two : length ys ≡ n - b = ap length last ∙ part_length bs b (n - b) (omega (arith, count, within)) in
    let gap : n - length xs - length ys ≡ b - a = omega (arith, one, two, le, within) in
    let end : n - length ys ≡ b = omega (arith, two, within) in
    let next : a + (b - a) ≡ b = omega (arith, le) in
    let rest : part bs b (n - b) ≡ drop (a + (b - a)) bs = take_all (n - b) (drop b bs) (omega (
      arith,
      length-drop b bs,
      count,
    )) ∙ ap (λ k. drop k bs) (sym next) in
    let bytes : xs ++ (replicate (n - length xs - length ys) 0 ++ ys) ≡ bs
    = ap (λ (l : List ℕ). l ++ (replicate (n - length xs - length ys) 0 ++ ys)) front
    ∙ ap (λ k. part bs 0 a ++ (replicate k 0 ++ ys)) gap
    ∙ ap (λ (l : List ℕ). part bs 0 a ++ (replicate (b - a) 0 ++ l)) (last ∙ rest)
    ∙ ap (λ (l : List ℕ). part bs 0 a ++ (l ++ drop (a + (b - a)) bs))
    (sym (hole_zeros cs a b h a (b - a) (omega arith) (omega (arith, le)) (omega (arith, e, within))))
    ∙ same_part bs a (b - a) in
    ap (λ (l : List ℕ). record { bytes = l; from = length xs; to = n - length ys }) bytes
    ∙ ap (λ (k : ℕ). record { bytes = bs; from = k; to = n - length ys }) one
    ∙ ap (λ (k : ℕ). record { bytes = bs; from = a; to = k }) end
