-- Parts of a list of bytes after another part was written.
use Rattle.std.proofs.Common.{◌≡◌, ℕ, zero, suc, ◌+◌, ◌≤◌, List, [], ◌∷◌, ◌++◌, take, drop, length, refl, sym, ap, ◌∙◌, inl, inr, ◌⊎◌, arith}
use Rattle.std.proofs.Math.Seq.{take-append_seam, take-add}
use Rattle.std.proofs.lemmas.List.{append_assoc, drop-drop, length-take, length-drop}
use Rattle.std.specs.List.{refill}
use Rattle.dm_region.specs.Parts.{part, with_part}

start : (M P : ℕ) (xs r : List ℕ) → M ≤ P → P ≤ length xs → take M (take P xs ++ r) ≡ take M xs
start zero P xs r le in' = refl
start (suc M) zero xs r le in' = absurd (omega arith)
start (suc M) (suc P) [] r le in' = absurd (omega arith)
start (suc M) (suc P) (x ∷ xs) r le in' = ap (λ l. x ∷ l) (start M P xs r (omega arith) (omega arith))

earlier : (Q M P : ℕ) (xs r : List ℕ) → Q + M ≤ P → P ≤ length xs → take M (drop Q (take P xs ++ r))
    ≡ take M (drop Q xs)
earlier zero M P xs r le in' = start M P xs r (omega arith) in'
earlier (suc Q) M zero xs r le in' = absurd (omega arith)
earlier (suc Q) M (suc P) [] r le in' = absurd (omega arith)
earlier (suc Q) M (suc P) (x ∷ xs) r le in' = earlier Q M P xs r (omega arith) (omega arith)

past : (Q : ℕ) (ws xs : List ℕ) → length ws ≤ Q → length ws ≤ length xs → drop Q (ws ++ drop (length ws) xs) ≡ drop Q xs
past Q [] xs le in' = refl
past zero (w ∷ ws) xs le in' = absurd (omega arith)
past (suc Q) (w ∷ ws) [] le in' = absurd (omega arith)
past (suc Q) (w ∷ ws) (x ∷ xs) le in' = past Q ws xs (omega arith) (omega arith)

later : (P Q K : ℕ) (ws xs : List ℕ) → K ≡ P + length ws → K ≤ Q → K ≤ length xs →
    drop Q (take P xs ++ (ws ++ drop K xs)) ≡ drop Q xs
later zero Q K ws xs e le in' = let same : K ≡ length ws = omega arith in ap (λ n. drop Q (ws ++ drop n xs)) same
    ∙ past Q ws xs (omega arith) (omega arith)
later (suc P) zero K ws xs e le in' = absurd (omega arith)
later (suc P) (suc Q) zero ws xs e le in' = absurd (omega arith)
later (suc P) (suc Q) (suc K) ws [] e le in' = absurd (omega arith)
later (suc P) (suc Q) (suc K) ws (x ∷ xs) e le in' = later P Q K ws xs (omega arith) (omega arith) (omega arith)

here : (P : ℕ) (ws xs r : List ℕ) → P ≤ length xs → take (length ws) (drop P (take P xs ++ (ws ++ r))) ≡ ws
here zero ws xs r le = take-append_seam ws r
here (suc P) ws [] r le = absurd (omega arith)
here (suc P) ws (x ∷ xs) r le = here P ws xs r (omega arith)

-- another part of a list is as it was before one was written
pub elsewhere : (xs ws : List ℕ) (P N Q M : ℕ) → length ws ≡ N → P + N ≤ length xs → (Q + M ≤ P) ⊎ (P + N ≤ Q) →
    part (with_part xs P N ws) Q M ≡ part xs Q M
elsewhere xs ws P N Q M e in' far = elim far [
  | inl h ↦ earlier Q M P xs (ws ++ drop (P + N) xs) h (omega arith)
  | inr h ↦ ap (take M) (later P Q (P + N) ws xs (omega arith) h in')
]

pub written : (xs ws : List ℕ) (P N : ℕ) → length ws ≡ N → P + N ≤ length xs → part (with_part xs P N ws) P N ≡ ws
written xs ws P N e in' = ap (λ n. take n (drop P (with_part xs P N ws))) (sym e)
    ∙ here P ws xs (drop (P + N) xs) (omega arith)

-- two writes side by side are one
upto : (P Q : ℕ) (xs a r : List ℕ) → Q ≡ P + length a → P ≤ length xs → take Q (take P xs ++ (a ++ r)) ≡ take P xs ++ a
upto zero Q xs a r e le = let same : Q ≡ length a = omega arith in ap (λ n. take n (a ++ r)) same ∙ take-append_seam a r
upto (suc P) zero xs a r e le = absurd (omega arith)
upto (suc P) (suc Q) [] a r e le = absurd (omega arith)
upto (suc P) (suc Q) (x ∷ xs) a r e le = ap (λ l. x ∷ l) (upto P Q xs a r (omega arith) (omega arith))

pub twice : (xs a z : List ℕ) (P N M : ℕ) → length a ≡ N → length z ≡ M → P + N + M ≤ length xs →
    with_part (with_part xs P N a) (P + N) M z ≡ with_part xs P (N + M) (a ++ z)
twice xs a z P N M ea ez le =
    let Q = P + N in let R = P + N + M in let rest = drop Q xs in let ys = take P xs ++ (a ++ rest) in
    let end : R ≡ P + (N + M) = omega arith in
    ap (λ l. l ++ (z ++ drop R ys)) (upto P Q xs a rest (omega arith) (omega arith))
    ∙ ap (λ l. (take P xs ++ a) ++ (z ++ l)) (later P R Q a xs (omega arith) (omega arith) (omega arith))
    ∙ append_assoc (take P xs) a (z ++ drop R xs) ∙ ap (λ l. take P xs ++ l) (sym (append_assoc a z (drop R xs)))
    ∙ ap (λ k. take P xs ++ ((a ++ z) ++ drop k xs)) end

pub part_length : (xs : List ℕ) (P N : ℕ) → P + N ≤ length xs → length (part xs P N) ≡ N
part_length xs P N in' = omega (arith, length-take N (drop P xs), length-drop P xs)

pub part_more : (xs : List ℕ) (at n k : ℕ) → part xs at (n + k) ≡ part xs at n ++ part xs (at + n) k
part_more xs at n k = take-add n k (drop at xs) ∙ ap (λ l. part xs at n ++ take k l) (drop-drop n at xs)

-- the first n bytes from `from` on, and then the next k, copied to a place apart from all of them
pub copied_more : (xs : List ℕ) (from to n k : ℕ) → from + n + k ≤ length xs → to + n + k ≤ length xs →
    (from + n + k ≤ to) ⊎ (to + n + k ≤ from)
    → let ys = with_part xs to n (part xs from n) in with_part ys (to + n) k (part ys (from + n) k)
    ≡ with_part xs to (n + k) (part xs from (n + k))
copied_more xs from to n k source destination apart =
    let ws = part xs from n in let ys = with_part xs to n ws in let long : length ws ≡ n =
    part_length xs from n (omega (arith, source)) in
    let same : part ys (from + n) k ≡ part xs (from + n) k
    = elsewhere xs ws to n (from + n) k long (omega (arith, destination)) (elim apart [
      | inl h ↦ inl (omega (arith, h))
      | inr h ↦ inr (omega (arith, h))
    ]) in
    ap (with_part ys (to + n) k) same
    ∙ twice xs ws (part xs (from + n) k) to n k long (part_length xs (from + n) k (omega (arith, source)))
    (omega (arith, destination))
    ∙ ap (with_part xs to (n + k)) (sym (part_more xs from n k))

-- a slice of which as many bytes as it has were written
pub refill_whole : (N : ℕ) (old new : List ℕ) → length new ≡ N → refill N old new ≡ new
refill_whole N old new e = ap (λ n. take n (new ++ drop (length new) old)) (sym e)
    ∙ take-append_seam new (drop (length new) old)
