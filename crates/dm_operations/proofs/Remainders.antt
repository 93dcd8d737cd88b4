-- The tables of counts modulo 9 and 17, by a test of each entry
use Rattle.std.proofs.Common.{◌≡◌, ◌∙◌, ℕ, zero, suc, ◌+◌, ◌%◌, ◌<◌, Bool, true, false, List, [], ◌∷◌, get_or, length, refl, ap, arith, nat_eq, ◌&&◌}
use Rattle.std.proofs.lemmas.Bool.Decides.{nat_tests}

-- whether each entry from place k on is its place modulo n
unfoldable pub leaves : ℕ → ℕ → List ℕ → Bool
leaves n k [] = true
leaves n k (x ∷ xs) = nat_eq x (k % n) && leaves n (suc k) xs

both_true : (a b : Bool) → (a && b) ≡ true → (a ≡ true) × (b ≡ true)
both_true true true e = (refl, refl)
both_true true false e = absurd cc
both_true false b e = absurd cc

equals : (a b : ℕ) → nat_eq a b ≡ true → a ≡ b
equals a b e = grind (arith, nat_tests)

pub entry : (n d : ℕ) (xs : List ℕ) (k i : ℕ) → leaves n k xs ≡ true → i < length xs → get_or xs i d ≡ (i + k) % n
unfolding leaves
entry n d [] k i e h = absurd (omega arith)
entry n d (x ∷ xs) k zero e h = equals x (k % n) (both_true _ (leaves n (suc k) xs) e).0 ∙ ap (λ j. j % n) (omega arith)
entry n d (x ∷ xs) k (suc i) e h = entry n d xs (suc k) i (both_true (nat_eq x (k % n)) _ e).1 (omega arith)
    ∙ ap (λ j. j % n) (omega arith)

pub at_place : (n d : ℕ) (xs : List ℕ) (i : ℕ) → leaves n 0 xs ≡ true → length xs ≡ 256 → i < 256 →
    get_or xs i d ≡ i % n
at_place n d xs i e l h = entry n d xs 0 i e (omega arith) ∙ ap (λ j. j % n) (omega arith)
