-- Blocks of a list, and the paragraphs that they take.
use Rattle.std.proofs.Common.{◌≡◌, ℕ, ◌+◌, ◌<◌, ◌≤◌, List, [], ◌∷◌, ◌++◌, ◌⊎◌, inl, inr, arith}
use Rattle.dm_blocks.specs.declared.header.Header.{Header}
use Rattle.dm_arena.specs.Blocks.{IsIn}
use Rattle.dm_laws.specs.arena.Paragraphs.{paragraphs_taken}

pub in_left : (P Q : List Header) (b : Header) → IsIn b P → IsIn b (P ++ Q)
in_left [] Q b i = absurd i
in_left (p ∷ P) Q b (inl e) = inl e
in_left (p ∷ P) Q b (inr i) = inr (in_left P Q b i)

pub in_right : (P Q : List Header) (b : Header) → IsIn b Q → IsIn b (P ++ Q)
in_right [] Q b i = i
in_right (p ∷ P) Q b i = inr (in_right P Q b i)

pub in_either : (P Q : List Header) (b : Header) → IsIn b (P ++ Q) → IsIn b P ⊎ IsIn b Q
in_either [] Q b i = inr i
in_either (p ∷ P) Q b (inl e) = inl (inl e)
in_either (p ∷ P) Q b (inr i) = elim (in_either P Q b i) [ inl l ↦ inl (inr l) | inr r ↦ inr r ]

-- a block of the list is none of C's: it stays where B is put in the place of C
pub in_replaced : (P B C Q : List Header) (b : Header) → (IsIn b C → IsIn b B) → IsIn b (P ++ (C ++ Q)) →
    IsIn b (P ++ (B ++ Q))
in_replaced P B C Q b f i = elim (in_either P (C ++ Q) b i) [
  | inl l ↦ in_left P (B ++ Q) b l
  | inr r ↦ elim (in_either C Q b r) [
    | inl c ↦ in_right P (B ++ Q) b (in_left B Q b (f c))
    | inr q ↦
        in_right P (B ++ Q) b (in_right B Q b q)
  ]
]

pub paragraphs-append : (P Q : List Header) → paragraphs_taken (P ++ Q) ≡ paragraphs_taken P + paragraphs_taken Q
paragraphs-append [] Q = omega arith
paragraphs-append (p ∷ P) Q = let x = paragraphs-append P Q in omega arith

pub paragraphs-replaced : (P B C Q : List Header) → paragraphs_taken B ≡ paragraphs_taken C →
    paragraphs_taken (P ++ (B ++ Q)) ≡ paragraphs_taken (P ++ (C ++ Q))
paragraphs-replaced P B C Q e =
    let x = paragraphs-append P (B ++ Q) in
    let y = paragraphs-append P (C ++ Q) in
    let z = paragraphs-append B Q in
    let w = paragraphs-append C Q in
    omega arith

pub below_or : (p x : ℕ) → (p < x) ⊎ (x ≤ p)
below_or p x = grind arith
