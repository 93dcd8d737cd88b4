-- A cursor over the first list, which goes along with a walk over the second.
use Rattle.std.proofs.Common.{◌≡◌, ◌≢◌, ℕ, ◌<◌, ◌≤◌, Bool, true, false, List, [], ◌∷◌, ◌++◌, inl, inr, refl, sym, ◌∙◌, ap, subst, arith, append_assoc, Option, Some, None}
use Rattle.std.specs.Prelude.{if◌then◌else◌}
use Rattle.dm_space.specs.Memory.{Memory}
use Rattle.dm_blocks.specs.declared.header.Header.{Header}
use Rattle.dm_blocks.specs.declared.header.ListedHeader.{ListedHeader}
use Rattle.dm_blocks.specs.Chain.{HasHeader, Spells, next}
use Rattle.dm_blocks.specs.Reading.{IsFront, IsSpelledFrom, is_nil}
use Rattle.dm_blocks.specs.inner.Reading.{AreLeft, HasCaughtUp, IsCursor}
use Rattle.dm_blocks.proofs.Chains.{has_either, has_right, spells_above}

left_by : (S : Memory) (e : ListedHeader) (N : List Header) (r q : Bool) → e.last ≡ r → r ≡ is_nil N →
    Spells S (next e.header) N → (n : ℕ) → n ≡ next e.header → AreLeft S (if r then None else Some n) N
left_by S e [] true q l is s n at = refl
left_by S e (c ∷ N) true q l is s n at = absurd (let x : true ≡ false = is in cc)
left_by S e [] false q l is s n at = absurd (let x : false ≡ true = is in cc)
left_by S e (c ∷ N) false q l is s n at = record {
  nonempty = tt;
  spells = (let F : ℕ → Type 0 =
      λ x. Spells S x (c ∷ N) in subst F (sym at) s);
}

-- one header further
module _ (S : Memory) (here : ℕ) (e : ListedHeader) (there : e.header.segment ≡ here) (front : (L : List Header) →
    IsSpelledFrom S here L → (K : List Header) × IsFront S L e K) (o : Option ℕ) (n : ℕ) (at : n ≡ next e.header)
    (is : o ≡ (if e.last then None else Some n)) where
  more : (K : List Header) → IsSpelledFrom S here K → (N : List Header) × (K ≡ e.header ∷ N) × AreLeft S o N
  more K s =
      let f = front K s in
      let F : Option ℕ → Type 0 = λ x. AreLeft S x f.0 in
      (f.0, f.1.is, subst F (sym is) (left_by S e f.0 e.last true refl f.1.last f.1.rest n at))

  pub left-on : (K : List Header) × AreLeft S (Some here) K → (K : List Header) × AreLeft S o K
  left-on k = (let m = more k.0 k.1 in (m.0, m.2))

  pub cursor-on : (F : List Header) (t : ℕ) → here < t → IsCursor S F (Some here) t → IsCursor S F o t
  cursor-on F t small k =
      let m = more k.rest k.left in
      record {
        passed = k.passed ++ e.header ∷ [];
        rest = m.0;
        is = k.is ∙ ap (λ X. k.passed ++ X) m.1 ∙ sym (append_assoc k.passed (e.header ∷ []) m.0);
        below = λ g w. elim (has_either k.passed (e.header ∷ []) g w) [
          | inl l ↦ k.below g l
          | inr r ↦ elim r [ inl q ↦ omega arith | inr z ↦ absurd z ]
        ];
        left = m.2;
      }

pub cursor-at : (S : Memory) (F : List Header) (a b : Option ℕ) (t : ℕ) → a ≡ b → IsCursor S F a t → IsCursor S F b t
cursor-at S F a b t e k = (let G : Option ℕ → Type 0 = λ x. IsCursor S F x t in subst G e k)

pub left-at : (S : Memory) (a b : Option ℕ) → a ≡ b → (K : List Header) × AreLeft S a K → (K : List Header) ×
    AreLeft S b K
left-at S a b e k = (let G : Option ℕ → Type 0 = λ x. (K : List Header) × AreLeft S x K in subst G e k)

pub caught-at : (a b : Option ℕ) (t : ℕ) → a ≡ b → HasCaughtUp a t → HasCaughtUp b t
caught-at a b t e k = (let G : Option ℕ → Type 0 = λ x. HasCaughtUp x t in subst G e k)

-- whether the list has a header where the cursor has caught up
pub cursor-later : (S : Memory) (F : List Header) (o : Option ℕ) (t u : ℕ) → t ≤ u → IsCursor S F o t → IsCursor S F o u
cursor-later S F o t u le k = record {
  passed = k.passed;
  rest = k.rest;
  is = k.is;
  below = λ g w. (let x = k.below g w in omega arith);
  left = k.left;
}

left-none : (S : Memory) (o : Option ℕ) (K : List Header) (t : ℕ) → AreLeft S o K → HasCaughtUp o t → o ≢ Some t →
    HasHeader K t → ⊥
left-none S None K t l c ne w = (let F : List Header → Type 0 = λ X. HasHeader X t in absurd (subst F l w))
left-none S (Some h) K t l c ne w = (let x = spells_above S h K l.spells t w in
    ne (ap (λ (z : ℕ). Some z) (omega arith)))

pub not-met : (S : Memory) (F : List Header) (o : Option ℕ) (t : ℕ) → IsCursor S F o t → HasCaughtUp o t → o ≢ Some t →
    HasHeader F t → ⊥
not-met S F o t k c ne w =
    let G : List Header → Type 0 = λ X. HasHeader X t in
    elim (has_either k.passed k.rest t (subst G k.is w)) [
      | inl l ↦ (let x = k.below t l in omega arith)
      | inr r ↦ left-none S o k.rest t k.left c ne r
    ]

head-there : (S : Memory) (h : ℕ) (K : List Header) → IsSpelledFrom S h K → HasHeader K h
head-there S h [] s = absurd s.nonempty
head-there S h (c ∷ K) s = inl s.spells.0

pub met : (S : Memory) (F : List Header) (o : Option ℕ) (t : ℕ) → IsCursor S F o t → o ≡ Some t → HasHeader F t
met S F o t k e =
    let k' = cursor-at S F o (Some t) t e k in
    let G : List Header → Type 0 = λ X. HasHeader X t in
    subst G (sym k'.is) (has_right k'.passed k'.rest t (head-there S t k'.rest k'.left))

-- a cursor at the start of a list, and one over none
pub cursor-start : (S : Memory) (h t : ℕ) (F : List Header) → IsSpelledFrom S h F → IsCursor S F (Some h) t
cursor-start S h t F s = record { passed = []; rest = F; is = refl; below = λ g w. absurd w; left = s }

pub cursor-none : (S : Memory) (t : ℕ) → IsCursor S [] None t
cursor-none S t = record { passed = []; rest = []; is = refl; below = λ g w. absurd w; left = refl }

pub none-is : (e : ListedHeader) (n : ℕ) → e.last ≡ true → None ≡ (if e.last then None else Some n)
none-is e n l = rw l refl

pub some-is : (e : ListedHeader) (n : ℕ) → e.last ≡ false → Some n ≡ (if e.last then None else Some n)
some-is e n l = rw l refl
