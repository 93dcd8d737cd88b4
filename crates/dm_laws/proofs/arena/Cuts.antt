-- What cutting a block makes.
use Rattle.std.proofs.Common.{Bool, ◌≡◌, ◌≢◌, ℕ, ◌+◌, ◌-◌, ◌<◌, ◌≤◌, true, false, List, [], ◌∷◌, ◌⊎◌, inl, inr, refl, sym, ◌∙◌, ap, ap₂, subst, arith, nat_eq}
use Rattle.std.proofs.lemmas.Bool.Decides.{nat_tests}
use Rattle.dm_blocks.specs.declared.header.Header.{Header}
use Rattle.dm_arena.specs.declared.fit.Fit.{Fit}
use Rattle.dm_arena.specs.declared.fit.Fit.TheVariants.{First, Best, Last}
use Rattle.dm_arena.specs.Blocks.{IsIn, cut_block, cut_high, cut_low, taken_segment}
use Rattle.dm_laws.specs.arena.Paragraphs.{IsPartOf, paragraphs_taken}

-- the headers C are those of b cut: `new` with n paragraphs, alone, below or above the free rest of b
pub record IsCut (n owner : ℕ) (b new : Header) (C : List Header) : Type 0 where
  pub owned : new.owner ≡ owner
  pub sized : new.size ≡ n
  pub shape : ((C ≡ new ∷ []) × (new.segment ≡ b.segment) × (n ≡ b.size))
      ⊎ (((r : Header) × (C ≡ new ∷ r ∷ []) × (new.segment ≡ b.segment) × (r.segment ≡ b.segment + 1 + n) ×
      (r.owner ≡ 0) × (n + 1 + r.size ≡ b.size))
      ⊎ ((r : Header) × (C ≡ r ∷ new ∷ []) × (r.segment ≡ b.segment) × (new.segment ≡ b.segment + 1 + r.size) ×
      (r.owner ≡ 0) × (r.size + 1 + n ≡ b.size)))

less_of : (a n : ℕ) → nat_eq a n ≡ false → n ≤ a → n < a
less_of a n e h = grind (arith, nat_tests)

same_of : (a n : ℕ) → nat_eq a n ≡ true → n ≡ a
same_of a n e = grind (arith, nat_tests)

cut_low-is : (n owner : ℕ) (b : Header) (r : Bool) → nat_eq b.size n ≡ r → n ≤ b.size →
    IsCut n owner b (record { segment = b.segment; owner = owner; size = n }) (cut_low n owner b)
cut_low-is n owner b true e h = record {
  owned = refl;
  sized = refl;
  shape = inl (
    rw e (ap (λ s. record { segment = b.segment; owner = owner; size = s } ∷ []) (sym (same_of b.size n e))),
    refl,
    same_of b.size n e,
  );
}
cut_low-is n owner b false e h = record {
  owned = refl;
  sized = refl;
  shape = inr (inl (
    record { segment = b.segment + 1 + n; owner = 0; size = b.size - n - 1 },
    rw e refl,
    refl,
    refl,
    refl,
    (let l = less_of b.size n e h in omega arith),
  ));
}

cut_high-is : (n owner : ℕ) (b : Header) (r : Bool) → nat_eq b.size n ≡ r → n ≤ b.size →
    IsCut n owner b (record { segment = b.segment + b.size - n; owner = owner; size = n }) (cut_high n owner b)
cut_high-is n owner b true e h =
    let s : n ≡ b.size = same_of b.size n e in
    let at : b.segment ≡ b.segment + b.size - n = omega arith in
    record {
      owned = refl;
      sized = refl;
      shape = inl (rw e (ap₂ (λ g s. record { segment = g; owner = owner; size = s } ∷ []) at (sym s)), sym at, s);
    }
cut_high-is n owner b false e h =
    let l = less_of b.size n e h in
    record {
      owned = refl;
      sized = refl;
      shape = inr (inr (
        record { segment = b.segment; owner = 0; size = b.size - n - 1 },
        rw e refl,
        refl,
        omega arith,
        refl,
        omega arith,
      ));
    }

-- the block that is taken by this fit
abbrev pub taken : Fit → ℕ → ℕ → Header → Header
taken fit n owner b = record { segment = taken_segment fit n b; owner = owner; size = n }

pub cut-is : (fit : Fit) (n owner : ℕ) (b : Header) → n ≤ b.size →
    IsCut n owner b (taken fit n owner b) (cut_block fit n owner b)
cut-is First n owner b h = cut_low-is n owner b _ refl h
cut-is Best n owner b h = cut_low-is n owner b _ refl h
cut-is Last n owner b h = cut_high-is n owner b _ refl h

module _ (n owner : ℕ) (b new : Header) (C : List Header) (c : IsCut n owner b new C) where
  pub cut-there : IsIn new C
  cut-there =
      let F : List Header → Type 0 = λ X. IsIn new X in
      elim c.shape [
        | inl x ↦ subst F (sym x.0) (inl refl)
        | inr y ↦ elim y [ inl x ↦ subst F (sym x.1) (inl refl) | inr x ↦ subst F (sym x.1) (inr (inl refl)) ]
      ]

  -- only the new block has an owner
  pub cut-others : (d : Header) → d.owner ≢ 0 → IsIn d C → d ≡ new
  cut-others d o i =
      let F : List Header → Type 0 = λ X. IsIn d X in
      elim c.shape [
        | inl x ↦ elim (subst F x.0 i) [ inl q ↦ q | inr r ↦ absurd r ]
        | inr y ↦ elim y [
          | inl x ↦ elim (subst F x.1 i) [
            | inl q ↦ q
            | inr r ↦ elim r [
              | inl q ↦ absurd (o (ap (λ z. z.owner) q ∙ x.4))
              | inr s ↦ absurd s
            ]
          ]
          | inr x ↦ elim (subst F x.1 i) [
            | inl q ↦ absurd (o (ap (λ z. z.owner) q ∙ x.4))
            | inr r ↦
                elim r [ inl q ↦ q | inr s ↦ absurd s ]
          ]
        ]
      ]

  pub cut-paragraphs : paragraphs_taken C ≡ paragraphs_taken (b ∷ [])
  cut-paragraphs =
      let s = c.sized in
      elim c.shape [
        | inl x ↦ ap paragraphs_taken x.0 ∙ (let z = x.2 in omega arith)
        | inr y ↦ elim y [
          | inl x ↦ ap paragraphs_taken x.1 ∙ (let z = x.5 in omega arith)
          | inr x ↦
              ap paragraphs_taken x.1 ∙ (let z = x.5 in omega arith)
        ]
      ]

  pub cut-within : (p : ℕ) → IsPartOf p new → IsPartOf p b
  cut-within p h =
      let s = c.sized in
      let low = h.0 in
      let high = h.1 in
      elim c.shape [
        | inl x ↦ (let y = x.1 in let z = x.2 in omega arith)
        | inr y ↦ elim y [
          | inl x ↦ (let y = x.2 in let z = x.5 in omega arith)
          | inr x ↦ (let y = x.3 in let z = x.5 in omega arith)
        ]
      ]
