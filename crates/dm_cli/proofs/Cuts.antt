-- A reader that was cut, and whose end was reached before the cut.
use Rattle.std.proofs.Common.{◌≡◌, ◌∙◌, ℕ, List, Option, Some, None, option_map, take, length, ◌<◌, ◌≤◌, IfSome, ap, arith, length-take}
use Rattle.std.proofs.lemmas.List.{take_all}

pub cut_past_end : (o : Option (List ℕ)) (items : List ℕ) (n : ℕ) → IfSome (option_map (take n) o) (λ xs. items ≡ xs)
    → length items < n → IfSome o (λ xs. items ≡ xs)
cut_past_end None items n h short = tt
cut_past_end (Some xs) items n h short = h ∙ take_all n xs (shorter xs (rw (← h) short))
  where
    shorter : (ys : List ℕ) → length (take n ys) < n → length ys ≤ n
    shorter ys p = let q = length-take n ys in omega (arith, p, q)

-- the first n of some bytes: all of them, where they are fewer
pub cut_short : (o : Option (List ℕ)) (items : List ℕ) (n : ℕ) → IfSome o (λ xs. items ≡ take n xs) → length items < n →
    IfSome o (λ xs. items ≡ xs)
cut_short None items n h short = tt
cut_short (Some xs) items n h short = cut_past_end (Some xs) items n h short

-- they are no more than all
pub cut_long : (o : Option (List ℕ)) (items : List ℕ) (n m : ℕ) → IfSome o (λ xs. items ≡ take n xs) →
    m < length items → IfSome o (λ xs. m < length xs)
cut_long None items n m h long = tt
cut_long (Some xs) items n m h long = let k = length-take n xs in let e : length items ≡ length (take n xs) =
    ap length h in omega (arith, e, k, long)
