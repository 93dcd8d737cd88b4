-- A part of a slice as its loan leaves it, as `with_part` has it.
use Rattle.std.proofs.Common.{◌≡◌, ℕ, zero, suc, ◌+◌, ◌-◌, ◌≤◌, List, [], ◌∷◌, ◌++◌, length, take, drop, refl, sym, ap, ◌∙◌, arith}
use Rattle.std.specs.List.{copy_within}
use Rattle.std.proofs.lemmas.List.{drop-drop, append_assoc, append-nil}
use Rattle.std.proofs.Math.Seq.{take-add}
use lib.Seq.{paste}
use borrow.Rule.Slice.PartMut.{put_mid}
use Rattle.dm_region.specs.Parts.{part, with_part}

pub mid_part : (a k n : ℕ) (xs ys : List ℕ) → n ≡ k → put_mid a n xs ys ≡ with_part xs a k ys
mid_part a k n xs ys e = ap (λ m. put_mid a m xs ys) e ∙ ap (λ l. take a xs ++ (ys ++ l)) (drop-drop k a xs)

-- what `copy_within` leaves
pub copied_part : (xs : List ℕ) (from to n k : ℕ) → k ≡ n → copy_within xs from (from + k) to
    ≡ with_part xs to n (part xs from n)
copied_part xs from to n k e =
    let same : from + k - from ≡ n = omega (arith, e) in
    ap (λ m. paste xs to (drop from xs) m) same ∙ append_assoc (take to xs) (part xs from n) (drop (to + n) xs)

take_first : (N M : ℕ) (ys : List ℕ) → M ≤ N → take M (take N ys) ≡ take M ys
take_first N zero ys le = refl
take_first zero (suc M) ys le = absurd (omega (arith, le))
take_first (suc N) (suc M) [] le = refl
take_first (suc N) (suc M) (y ∷ ys) le = ap (λ l. y ∷ l) (take_first N M ys (omega (arith, le)))

take_within : (Q M N : ℕ) (ys : List ℕ) → Q + M ≤ N → take M (drop Q (take N ys)) ≡ take M (drop Q ys)
take_within zero M N ys le = take_first N M ys (omega (arith, le))
take_within (suc Q) M zero ys le = absurd (omega (arith, le))
take_within (suc Q) M (suc N) [] le = refl
take_within (suc Q) M (suc N) (y ∷ ys) le = take_within Q M N ys (omega (arith, le))

-- a part of a part
pub part_in : (xs : List ℕ) (P N Q M : ℕ) → Q + M ≤ N → part (part xs P N) Q M ≡ part xs (P + Q) M
part_in xs P N Q M le = take_within Q M N (drop P xs) le ∙ ap (take M) (drop-drop Q P xs)

front : (ws xs : List ℕ) (M N : ℕ) → length ws ≡ M → M ≤ N → N ≤ length xs → take N (ws ++ drop M xs) ≡ ws
    ++ drop M (take N xs)
front [] xs zero N e le in' = refl
front [] xs (suc M) N e le in' = absurd (omega (arith, e))
front (w ∷ ws) xs zero N e le in' = absurd (omega (arith, e))
front (w ∷ ws) xs (suc M) zero e le in' = absurd (omega (arith, le))
front (w ∷ ws) [] (suc M) (suc N) e le in' = absurd (omega (arith, in'))
front (w ∷ ws) (x ∷ xs) (suc M) (suc N) e le in' =
    ap (λ l. w ∷ l) (front ws xs M N (omega (arith, e)) (omega (arith, le)) (omega (arith, in')))

inside : (ws xs : List ℕ) (Q M K N : ℕ) → length ws ≡ M → K ≡ Q + M → K ≤ N → N ≤ length xs →
    take N (take Q xs ++ (ws ++ drop K xs)) ≡ take Q (take N xs) ++ (ws ++ drop K (take N xs))
inside ws xs zero M K N e k le in' = front ws xs K N (omega (arith, e, k)) le in'
inside ws xs (suc Q) M zero N e k le in' = absurd (omega (arith, k))
inside ws xs (suc Q) M (suc K) zero e k le in' = absurd (omega (arith, le))
inside ws [] (suc Q) M (suc K) (suc N) e k le in' = absurd (omega (arith, in'))
inside ws (x ∷ xs) (suc Q) M (suc K) (suc N) e k le in' =
    ap (λ l. x ∷ l) (inside ws xs Q M K N e (omega (arith, k)) (omega (arith, le)) (omega (arith, in')))

within_part : (ws xs : List ℕ) (P Q M K N : ℕ) → length ws ≡ M → K ≡ P + Q + M → Q + M ≤ N → P + N ≤ length xs
    → take N (drop P (take (P + Q) xs ++ (ws ++ drop K xs))) ≡ take Q (take N (drop P xs))
    ++ (ws ++ drop (Q + M) (take N (drop P xs)))
within_part ws xs zero Q M K N e k le in' =
    let a : 0 + Q ≡ Q = omega arith in let b : K ≡ Q + M = omega (arith, k) in
    ap (λ n. take N (take n xs ++ (ws ++ drop K xs))) a ∙ inside ws xs Q M K N e b (omega (arith, b, le)) (omega (
      arith,
      in',
    )) ∙ ap (λ n. take Q (take N xs) ++ (ws ++ drop n (take N xs))) b
within_part ws [] (suc P) Q M K N e k le in' = absurd (omega (arith, in'))
within_part ws (x ∷ xs) (suc P) Q M zero N e k le in' = absurd (omega (arith, k))
within_part ws (x ∷ xs) (suc P) Q M (suc K) N e k le in' =
    let a : suc P + Q ≡ suc (P + Q) = omega arith in
    ap (λ n. take N (drop (suc P) (take n (x ∷ xs) ++ (ws ++ drop (suc K) (x ∷ xs))))) a
    ∙ within_part ws xs P Q M K N e (omega (arith, k)) le (omega (arith, in'))

-- a write into a part of a part
pub part_with_part : (xs ws : List ℕ) (P N Q M : ℕ) → length ws ≡ M → Q + M ≤ N → P + N ≤ length xs →
    part (with_part xs (P + Q) M ws) P N ≡ with_part (part xs P N) Q M ws
part_with_part xs ws P N Q M e le in' = within_part ws xs P Q M (P + Q + M) N e refl le in'

whole : (N : ℕ) (xs : List ℕ) → xs ≡ take N xs ++ drop N xs
whole zero xs = refl
whole (suc N) [] = refl
whole (suc N) (x ∷ xs) = ap (λ l. x ∷ l) (whole N xs)

behind : (M N : ℕ) (xs : List ℕ) → M ≤ N → drop M xs ≡ drop M (take N xs) ++ drop N xs
behind zero N xs le = whole N xs
behind (suc M) zero xs le = absurd (omega (arith, le))
behind (suc M) (suc N) [] le = refl
behind (suc M) (suc N) (x ∷ xs) le = behind M N xs (omega (arith, le))

rewritten_from : (xs d : List ℕ) (N t M K : ℕ) → K ≡ t + M → K ≤ N → take t xs ++ (d ++ drop K xs) ≡ (take t (take N xs)
    ++ (d ++ drop K (take N xs))) ++ drop N xs
rewritten_from xs d N zero M K e le = ap (λ l. d ++ l) (behind K N xs le)
    ∙ sym (append_assoc d (drop K (take N xs)) (drop N xs))
rewritten_from xs d N (suc t) M zero e le = absurd (omega (arith, e))
rewritten_from xs d zero (suc t) M (suc K) e le = absurd (omega (arith, le))
rewritten_from [] d (suc N) (suc t) M (suc K) e le = sym (append-nil (d ++ []))
rewritten_from (x ∷ xs) d (suc N) (suc t) M (suc K) e le =
    ap (λ l. x ∷ l) (rewritten_from xs d N t M K (omega (arith, e)) (omega (arith, le)))

rewritten : (xs d : List ℕ) (P N t M K : ℕ) → K ≡ P + t + M → t + M ≤ N → P + N ≤ length xs
    → take (P + t) xs ++ (d ++ drop K xs) ≡ take P xs ++ ((take t (take N (drop P xs))
    ++ (d ++ drop (t + M) (take N (drop P xs)))) ++ drop (P + N) xs)
rewritten xs d zero N t M K e le in' =
    let a : 0 + t ≡ t = omega arith in let b : K ≡ t + M = omega (arith, e) in let n : N ≡ 0 + N = omega arith in
    ap (λ i. take i xs ++ (d ++ drop K xs)) a ∙ ap (λ i. take t xs ++ (d ++ drop i xs)) b
    ∙ rewritten_from xs d N t M (t + M) refl le ∙ ap (λ i. (take t (take N xs) ++ (d ++ drop (t + M) (take N xs)))
    ++ drop i xs) n
rewritten [] d (suc P) N t M K e le in' = absurd (omega (arith, in'))
rewritten (x ∷ xs) d (suc P) N t M zero e le in' = absurd (omega (arith, e))
rewritten (x ∷ xs) d (suc P) N t M (suc K) e le in' =
    let a : suc P + t ≡ suc (P + t) = omega arith in let b : suc (P + N) ≡ suc P + N = omega arith in
    ap (λ i. take i (x ∷ xs) ++ (d ++ drop (suc K) (x ∷ xs))) a
    ∙ ap (λ l. x ∷ l) (rewritten xs d P N t M K (omega (arith, e)) le (omega (arith, in')))
    ∙ ap (λ i. x ∷ (take P xs ++ ((take t (take N (drop P xs)) ++ (d ++ drop (t + M) (take N (drop P xs))))
    ++ drop i (x ∷ xs)))) b

-- to write within a part is to write the part as it is then
pub part_rewritten : (xs d : List ℕ) (P N t M : ℕ) → t + M ≤ N → P + N ≤ length xs →
    with_part xs (P + t) M d ≡ with_part xs P N (with_part (part xs P N) t M d)
part_rewritten xs d P N t M le in' = rewritten xs d P N t M (P + t + M) refl le in'

-- three parts that follow each other from the first byte on are one part
pub parts_joined : (xs : List ℕ) (a b n : ℕ) → part xs 0 (a + b + n) ≡ part xs 0 a ++ (part xs a b ++ part xs (a + b) n)
parts_joined xs a b n =
    take-add (a + b) n xs ∙ ap (λ l. l ++ take n (drop (a + b) xs)) (take-add a b xs)
    ∙ append_assoc (take a xs) (take b (drop a xs)) (take n (drop (a + b) xs))
