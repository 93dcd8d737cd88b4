-- What joining keeps.
use Rattle.std.proofs.Common.{Bool, ◌≡◌, ◌≢◌, ℕ, true, false, ◌&&◌, List, [], ◌∷◌, inl, inr, refl, sym, ◌∙◌, ap, subst, arith, nat_eq, not}
use Rattle.std.proofs.lemmas.Bool.Decides.{nat_tests}
use Rattle.dm_space.specs.Memory.{Memory}
use Rattle.dm_blocks.specs.declared.header.Header.{Header}
use Rattle.dm_blocks.specs.Chain.{Spells, is_free, is_link, next}
use Rattle.dm_arena.specs.Blocks.{IsIn, join, join_after, merge}
use Rattle.dm_arena.specs.inner.Walks.{Fills}
use Rattle.dm_arena.proofs.Ends.{bool_cases, fills_of, join_after-cond}
use Rattle.dm_laws.specs.arena.Paragraphs.{IsInFree, IsPartOf, paragraphs_taken}
use Rattle.dm_laws.proofs.arena.Within.{below_or}

pub and-left : (x y : Bool) → x && y ≡ true → x ≡ true
and-left true y h = refl
and-left false y h = absurd (let z : false ≡ true = h in cc)

pub and-right : (x y : Bool) → x && y ≡ true → y ≡ true
and-right true y h = h
and-right false y h = absurd (let z : false ≡ true = h in cc)

pub not-both : (x : Bool) → x ≡ true → x ≡ false → ⊥
not-both x e f = (let z : true ≡ false = sym e ∙ f in cc)

pub part-of : (p : ℕ) (b c : Header) → b ≡ c → IsPartOf p b → IsPartOf p c
part-of p b c e h = let F : Header → Type 0 = λ x. IsPartOf p x in subst F e h

module _ (up : Bool) where
  pub free-owner : (b : Header) → is_free up b ≡ true → b.owner ≡ 0
  free-owner b f = grind (arith, nat_tests, and-right (not (is_link up b.segment)) (nat_eq b.owner 0) f)

  free-same : (b c : Header) → b ≡ c → is_free up b ≡ is_free up c
  free-same b c e = ap (is_free up) e

  pub paragraphs-join_after : (b : Header) (L : List Header) → paragraphs_taken (join_after up b L)
      ≡ paragraphs_taken (b ∷ L)
  paragraphs-join_after b [] = refl
  paragraphs-join_after b (c ∷ L) = elim (bool_cases (is_free up b && is_free up c)) [
    | inl e ↦ ap paragraphs_taken (join_after-cond up b c L true e) ∙ (let x = paragraphs-join_after (merge b c) L in
        omega arith)
    | inr e ↦ ap paragraphs_taken (join_after-cond up b c L false e) ∙ (let x = paragraphs-join_after c L in
        omega arith)
  ]

  pub paragraphs-join : (L : List Header) → paragraphs_taken (join up L) ≡ paragraphs_taken L
  paragraphs-join [] = refl
  paragraphs-join (b ∷ L) = paragraphs-join_after b L

  -- each used block is kept
  kept_after : (b c : Header) (L : List Header) → is_free up c ≡ false → IsIn c (b ∷ L) → IsIn c (join_after up b L)
  kept_after b c [] u i = i
  kept_after b c (d ∷ L) u i =
      let F : List Header → Type 0 = λ X. IsIn c X in
      elim (bool_cases (is_free up b && is_free up d)) [
        | inl e ↦ subst F (sym (join_after-cond up b d L true e)) (kept_after (merge b d) c L u (elim i [
          | inl q ↦ absurd (not-both _ (and-left _ _ e) (sym (free-same c b q) ∙ u))
          | inr r ↦ elim r [ inl q ↦ absurd (not-both _ (and-right _ _ e) (sym (free-same c d q) ∙ u)) | inr s ↦ inr s ]
        ]))
        | inr e ↦ subst F (sym (join_after-cond up b d L false e)) (elim i [
          | inl q ↦ inl q
          | inr r ↦
              inr (kept_after d c L u r)
        ])
      ]

  pub kept_in_join : (L : List Header) (c : Header) → is_free up c ≡ false → IsIn c L → IsIn c (join up L)
  kept_in_join [] c u i = i
  kept_in_join (b ∷ L) c u i = kept_after b c L u i

  -- each block with an owner was there
  owned_after : (b c : Header) (L : List Header) → c.owner ≢ 0 → IsIn c (join_after up b L) → IsIn c (b ∷ L)
  owned_after b c [] o i = i
  owned_after b c (d ∷ L) o i =
      let F : List Header → Type 0 = λ X. IsIn c X in
      elim (bool_cases (is_free up b && is_free up d)) [
        | inl e ↦ elim (owned_after (merge b d) c L o (subst F (join_after-cond up b d L true e) i)) [
          | inl q ↦ absurd (o (ap (λ x. x.owner) q ∙ free-owner b (and-left _ _ e)))
          | inr s ↦ inr (inr s)
        ]
        | inr e ↦ elim (subst F (join_after-cond up b d L false e) i) [
          | inl q ↦ inl q
          | inr r ↦
              inr (owned_after d c L o r)
        ]
      ]

  pub owned_in_join : (L : List Header) (c : Header) → c.owner ≢ 0 → IsIn c (join up L) → IsIn c L
  owned_in_join [] c o i = i
  owned_in_join (b ∷ L) c o i = owned_after b c L o i

  -- each paragraph of a free block was one of a free block
  free_later : (b : Header) (L : List Header) (p : ℕ) → IsInFree up L p → IsInFree up (b ∷ L) p
  free_later b L p x = record { block = x.block; there = inr x.there; free = x.free; part = x.part }

  free_after : (b : Header) (L : List Header) (t : ℕ) → Fills (next b) L t → (p : ℕ) →
      IsInFree up (join_after up b L) p → IsInFree up (b ∷ L) p
  free_after b [] t f p x = x
  free_after b (d ∷ L) t f p x =
      let F : List Header → Type 0 = λ X. IsInFree up X p in
      elim (bool_cases (is_free up b && is_free up d)) [
        | inl e ↦ (let at : next d ≡ next (merge b d) = (let x = f.0 in omega arith) in
            let G : ℕ → Type 0 = λ z. Fills z L t in
            let y = free_after (merge b d) L t (subst G at f.1) p (subst F (join_after-cond up b d L true e) x) in
            elim y.there [
              | inl q ↦ (let z = part-of p _ _ q y.part in
                  elim (below_or p (next b)) [
                    | inl low ↦ record { block = b; there = inl refl; free = and-left _ _ e; part = (z.0, low) }
                    | inr high ↦ record {
                      block = d;
                      there = inr (inl refl);
                      free = and-right _ _ e;
                      part = (let w = f.0 in omega arith);
                    }
                  ])
              | inr r ↦ record { block = y.block; there = inr (inr r); free = y.free; part = y.part }
            ])
        | inr e ↦ (let y : IsInFree up (b ∷ join_after up d L) p = subst F (join_after-cond up b d L false e) x in
            elim y.there [
              | inl q ↦ record { block = y.block; there = inl q; free = y.free; part = y.part }
              | inr r ↦ free_later b (d ∷ L) p (free_after d L t f.1 p (record {
                block = y.block;
                there = r;
                free = y.free;
                part = y.part;
              }))
            ])
      ]

  pub free_in_join : (S : Memory) (h : ℕ) (L : List Header) → Spells S h L → (p : ℕ) → IsInFree up (join up L) p →
      IsInFree up L p
  free_in_join S h [] s p x = x
  free_in_join S h (b ∷ L) s p x = let r = fills_of S (next b) L s.2 in free_after b L r.0 r.1 p x
