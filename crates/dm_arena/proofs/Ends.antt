-- Lists whose headers lie end to end.
use Rattle.std.proofs.Common.{◌≡◌, ℕ, ◌<◌, ◌≤◌, Bool, true, false, cond, ◌&&◌, List, [], ◌∷◌, ◌++◌, ◌⊎◌, inl, inr, refl, sym, ap, ap₂, subst, arith}
use Rattle.dm_space.specs.Memory.{Memory}
use Rattle.dm_blocks.specs.declared.header.Header.{Header}
use Rattle.dm_blocks.specs.Chain.{Spells, HasHeader, next}
use Rattle.dm_blocks.specs.Chain.{is_free}
use Rattle.dm_arena.specs.Blocks.{merge, join, join_after}
use Rattle.dm_arena.specs.inner.Walks.{Fills}
use Rattle.dm_blocks.proofs.Chains.{has_right}

pub bool_cases : (b : Bool) → (b ≡ true) ⊎ (b ≡ false)
bool_cases true = inl refl
bool_cases false = inr refl

-- lists that lie end to end rise
pub fills_of : (S : Memory) (h : ℕ) (L : List Header) → Spells S h L → (t : ℕ) × Fills h L t
fills_of S h [] s = (h, refl)
fills_of S h (b ∷ L) s = let r = fills_of S (next b) L s.2 in (r.0, (s.0, r.1))

pub fills_above : (h t : ℕ) (L : List Header) → Fills h L t → (g : ℕ) → HasHeader L g → h ≤ g
fills_above h t [] f g w = absurd w
fills_above h t (b ∷ L) f g (inl e) = let x = f.0 in omega arith
fills_above h t (b ∷ L) f g (inr w) = let x = f.0 in let y = fills_above (next b) t L f.1 g w in omega arith

pub fills_right : (h t : ℕ) (P : List Header) (b : Header) (Q : List Header) → Fills h (P ++ b ∷ Q) t →
    Fills (next b) Q t
fills_right h t [] b Q f = f.1
fills_right h t (p ∷ P) b Q f = fills_right (next p) t P b Q f.1

pub fills_left : (h t : ℕ) (P : List Header) (b : Header) (Q : List Header) → Fills h (P ++ b ∷ Q) t → (g : ℕ) →
    HasHeader P g → g < b.segment
fills_left h t [] b Q f g w = absurd w
fills_left h t (p ∷ P) b Q f g (inl e) = (let y = fills_above (next p) t (P ++ b ∷ Q) f.1 b.segment (has_right P (b
    ∷ Q) _ (inl refl)) in omega arith)
fills_left h t (p ∷ P) b Q f g (inr w) = fills_left (next p) t P b Q f.1 g w

pub fills_ends : (h t : ℕ) (C : List Header) → Fills h C t → h ≤ t
fills_ends h t [] f = omega arith
fills_ends h t (c ∷ C) f = (let x = f.0 in let y = fills_ends (next c) t C f.1 in omega arith)

pub fills_below : (h t : ℕ) (C : List Header) → Fills h C t → (g : ℕ) → HasHeader C g → g < t
fills_below h t [] f g w = absurd w
fills_below h t (c ∷ C) f g (inl e) = let y = fills_ends (next c) t C f.1 in omega arith
fills_below h t (c ∷ C) f g (inr w) = fills_below (next c) t C f.1 g w

-- a block is as long as what stands in its place
pub fills_replaced : (h t : ℕ) (P : List Header) (b : Header) (C Q : List Header) → Fills h (P ++ b ∷ Q) t →
    Fills b.segment C (next b) → Fills h (P ++ (C ++ Q)) t
fills_replaced h t [] b C Q f c = start h C f.0 c
  where
    on : (h : ℕ) (C : List Header) → Fills h C (next b) → Fills h (C ++ Q) t
    on h [] e = (let F : ℕ → Type 0 = λ x. Fills x Q t in subst F (sym e) f.1)
    on h (d ∷ D) g = (g.0, on (next d) D g.1)

    start : (h : ℕ) (C : List Header) → b.segment ≡ h → Fills b.segment C (next b) → Fills h (C ++ Q) t
    start h C e g = (let F : ℕ → Type 0 = λ x. Fills x C (next b) in on h C (subst F e g))
fills_replaced h t (p ∷ P) b C Q f c = (f.0, fills_replaced (next p) t P b C Q f.1 c)

-- a list has one header at a segment
head-same : (b c : Header) (L M : List Header) → b ∷ L ≡ c ∷ M → b ≡ c
head-same b c L M e = cc

tail-same : (b c : Header) (L M : List Header) → b ∷ L ≡ c ∷ M → L ≡ M
tail-same b c L M e = cc

pub split_unique : (h t : ℕ) (P : List Header) (b : Header) (Q P' : List Header) (b' : Header) (Q' : List Header) →
    Fills h (P ++ b ∷ Q) t → P ++ b ∷ Q ≡ P' ++ b' ∷ Q' → b.segment ≡ b'.segment → (P ≡ P') × (b ≡ b') × (Q ≡ Q')
split_unique h t [] b Q [] b' Q' f e s = (refl, head-same _ _ _ _ e, tail-same _ _ _ _ e)
split_unique h t [] b Q (p' ∷ P') b' Q' f e s =
    let F : List Header → Type 0 = λ X. HasHeader X b'.segment in
    let w : HasHeader Q b'.segment = subst F (sym (tail-same _ _ _ _ e)) (has_right P' (b' ∷ Q') _ (inl refl)) in
    let y = fills_above (next b) t Q f.1 _ w in
    absurd (omega arith)
split_unique h t (p ∷ P) b Q [] b' Q' f e s =
    let w : HasHeader (P ++ b ∷ Q) b.segment = has_right P (b ∷ Q) _ (inl refl) in
    let y = fills_above (next p) t (P ++ b ∷ Q) f.1 _ w in
    let z : p ≡ b' = head-same _ _ _ _ e in
    let v : p.segment ≡ b'.segment = ap (λ x. x.segment) z in
    absurd (omega arith)
split_unique h t (p ∷ P) b Q (p' ∷ P') b' Q' f e s =
    let r = split_unique (next p) t P b Q P' b' Q' f.1 (tail-same _ _ _ _ e) s in
    (ap₂ (λ x y. x ∷ y) (head-same _ _ _ _ e) r.0, r.1, r.2)

module _ (up : Bool) where
  pub join_after-cond : (b c : Header) (L : List Header) (r : Bool) → is_free up b && is_free up c ≡ r →
      join_after up b (c ∷ L) ≡ cond r (join_after up (merge b c) L) (b ∷ join_after up c L)
  join_after-cond b c L r e = rw e refl

  join_after-end_to_end : (b : Header) (L : List Header) (t : ℕ) → Fills (next b) L t →
      Fills b.segment (join_after up b L) t
  join_after-end_to_end b [] t f = (refl, f)
  join_after-end_to_end b (c ∷ L) t f =
      let F : List Header → Type 0 = λ X. Fills b.segment X t in
      let at : next c ≡ next (merge b c) = (let x = f.0 in omega arith) in
      elim (bool_cases (is_free up b && is_free up c)) [
        | inl e ↦ subst F (sym (join_after-cond b c L true e)) (join_after-end_to_end (merge b c) L t (let G : ℕ →
            Type 0 = λ z. Fills z L t in subst G at f.1))
        | inr e ↦ subst F (sym (join_after-cond b c L false e)) (
          refl,
          (let G : ℕ → Type 0 =
              λ z. Fills z (join_after up c L) t in subst G f.0 (join_after-end_to_end c L t f.1)),
        )
      ]

  pub join_fills : (S : Memory) (h : ℕ) (L : List Header) → Spells S h L → (t : ℕ) × (g : ℕ) × Fills g (join up L) t
  join_fills S h [] s = (h, h, refl)
  join_fills S h (b ∷ L) s = let r = fills_of S (next b) L s.2 in (r.0, b.segment, join_after-end_to_end b L r.0 r.1)
