-- A block with the free blocks right after it.
use Rattle.std.proofs.Common.{Bool, ◌≡◌, ℕ, ◌+◌, true, List, [], ◌∷◌, ◌++◌, ◌⊎◌, inl, inr, refl, ◌∙◌, ap, subst, arith}
use Rattle.dm_space.specs.Memory.{Memory}
use Rattle.dm_blocks.specs.declared.header.Header.{Header}
use Rattle.dm_blocks.specs.Chain.{Spells, is_free, next}
use Rattle.dm_arena.specs.Blocks.{IsIn, merge}
use Rattle.dm_arena.specs.Owned.{AllFree, absorb}
use Rattle.dm_laws.specs.arena.Paragraphs.{IsInFree, IsPartOf, paragraphs_taken}
use Rattle.dm_laws.proofs.arena.Within.{below_or}

pub absorb-segment : (b : Header) (R : List Header) → (absorb b R).segment ≡ b.segment
absorb-segment b [] = refl
absorb-segment b (c ∷ R) = absorb-segment (merge b c) R

absorb-size : (b : Header) (R : List Header) → (absorb b R).size ≡ b.size + paragraphs_taken R
absorb-size b [] = omega arith
absorb-size b (c ∷ R) = let x = absorb-size (merge b c) R in omega arith

pub paragraphs-absorb : (b : Header) (R : List Header) → paragraphs_taken (absorb b R ∷ []) ≡ paragraphs_taken (b ∷ R)
paragraphs-absorb b R = let x = absorb-size b R in omega arith

pub all_free : (up : Bool) (R : List Header) (d : Header) → AllFree up R → IsIn d R → is_free up d ≡ true
all_free up [] d a i = absurd i
all_free up (c ∷ R) d a (inl q) = ap (is_free up) q ∙ a.0
all_free up (c ∷ R) d a (inr i) = all_free up R d a.1 i

-- each paragraph is the block's own or a free one
pub absorb-cover : (up : Bool) (S : Memory) (b : Header) (R Q : List Header) → Spells S (next b) (R ++ Q) →
    AllFree up R → (p : ℕ) → IsPartOf p (absorb b R) → IsPartOf p b ⊎ IsInFree up R p
absorb-cover up S b [] Q s a p h = inl h
absorb-cover up S b (c ∷ R) Q s a p h =
    let at : next c ≡ next (merge b c) = (let x = s.0 in omega arith) in
    let F : ℕ → Type 0 = λ z. Spells S z (R ++ Q) in
    elim (absorb-cover up S (merge b c) R Q (subst F at s.2) a.1 p h) [
      | inl x ↦ elim (below_or p (next b)) [
        | inl low ↦ inl (x.0, low)
        | inr high ↦ inr (record {
          block = c;
          there = inl refl;
          free = a.0;
          part = (let y = x.1 in let z = s.0 in
              omega arith);
        })
      ]
      | inr x ↦ inr (record { block = x.block; there = inr x.there; free = x.free; part = x.part })
    ]
