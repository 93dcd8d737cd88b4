-- Joining a joined list, and joining two free blocks first.
use Rattle.std.proofs.Common.{Bool, ◌≡◌, true, false, ◌&&◌, List, [], ◌∷◌, ◌++◌, inl, inr, refl, sym, ◌∙◌, ap, ap₂, arith}
use Rattle.dm_blocks.specs.declared.header.Header.{Header}
use Rattle.dm_blocks.specs.Chain.{is_free}
use Rattle.dm_arena.specs.Blocks.{join, join_after, merge}
use Rattle.dm_arena.proofs.Ends.{bool_cases, join_after-cond}

merge-twice : (a c d : Header) → merge (merge a c) d ≡ merge a (merge c d)
merge-twice a c d = ap (λ s. record a { size = s }) (omega arith)

module _ (up : Bool) where
  both : (b c : Header) → is_free up b ≡ true → is_free up c ≡ true → is_free up b && is_free up c ≡ true
  both b c e f = ap₂ (λ x y. x && y) e f

  join_after-two : (a : Header) (P : List Header) (c d : Header) (Q : List Header) → is_free up c ≡ true →
      is_free up d ≡ true → join_after up a (P ++ c ∷ d ∷ Q) ≡ join_after up a (P ++ merge c d ∷ Q)
  join_after-two a [] c d Q x y = elim (bool_cases (is_free up a && is_free up c)) [
    | inl e ↦
        join_after-cond up a c (d ∷ Q) true e ∙ join_after-cond up (merge a c) d Q true (ap₂ (λ u v. u &&
        v) (left a c e) y)
        ∙ ap (λ z. join_after up z Q) (merge-twice a c d) ∙ sym (join_after-cond up a (merge c d) Q true e)
    | inr e ↦
        join_after-cond up a c (d ∷ Q) false e ∙ ap (λ X. a ∷ X) (join_after-cond up c d Q true (both c d x y))
        ∙ sym (join_after-cond up a (merge c d) Q false e)
  ]
    where
      left : (a c : Header) → is_free up a && is_free up c ≡ true → is_free up a ≡ true
      left a c e = first (is_free up a) (is_free up c) e
        where
          first : (u v : Bool) → u && v ≡ true → u ≡ true
          first true v h = refl
          first false v h = absurd (let z : false ≡ true = h in cc)
  join_after-two a (p ∷ P) c d Q x y = elim (bool_cases (is_free up a && is_free up p)) [
    | inl e ↦ join_after-cond up a p (P ++ c ∷ d ∷ Q) true e ∙ join_after-two (merge a p) P c d Q x y
        ∙ sym (join_after-cond up a p (P ++ merge c d ∷ Q) true e)
    | inr e ↦ join_after-cond up a p (P ++ c ∷ d ∷ Q) false e ∙ ap (λ X. a ∷ X) (join_after-two p P c d Q x y)
        ∙ sym (join_after-cond up a p (P ++ merge c d ∷ Q) false e)
  ]

  pub join-two : (P : List Header) (c d : Header) (Q : List Header) → is_free up c ≡ true → is_free up d ≡ true →
      join up (P ++ c ∷ d ∷ Q) ≡ join up (P ++ merge c d ∷ Q)
  join-two [] c d Q x y = join_after-cond up c d Q true (both c d x y)
  join-two (p ∷ P) c d Q x y = join_after-two p P c d Q x y

  head_after : (b : Header) (L : List Header) → (d : Header) × (R : List Header) × (join_after up b L ≡ d ∷ R) ×
      (is_free up d ≡ is_free up b)
  head_after b [] = (b, [], refl, refl)
  head_after b (c ∷ L) = elim (bool_cases (is_free up b && is_free up c)) [
    | inl e ↦ (let r = head_after (merge b c) L in (r.0, r.1, join_after-cond up b c L true e ∙ r.2, r.3))
    | inr e ↦ (b, join_after up c L, join_after-cond up b c L false e, refl)
  ]

  again_after : (b : Header) (L : List Header) → join up (join_after up b L) ≡ join_after up b L
  again_after b [] = refl
  again_after b (c ∷ L) = elim (bool_cases (is_free up b && is_free up c)) [
    | inl e ↦ ap (join up) (join_after-cond up b c L true e) ∙ again_after (merge b c) L
        ∙ sym (join_after-cond up b c L true e)
    | inr e ↦ (let r = head_after c L in
        ap (join up) (join_after-cond up b c L false e) ∙ ap (λ X. join_after up b X) r.2
        ∙ join_after-cond up b r.0 r.1 false (ap (λ z. is_free up b && z) r.3 ∙ e)
        ∙ ap (λ X. b ∷ X) (ap (join up) (sym r.2) ∙ again_after c L) ∙ sym (join_after-cond up b c L false e))
  ]

  pub join-again : (L : List Header) → join up (join up L) ≡ join up L
  join-again [] = refl
  join-again (b ∷ L) = again_after b L
