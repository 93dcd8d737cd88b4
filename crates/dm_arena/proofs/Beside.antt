-- When a new header may stand beside others, and what a list with it is then.
use Rattle.std.proofs.Common.{◌≡◌, ◌≢◌, ℕ, ◌*◌, ◌<◌, ◌≤◌, Bool, true, false, not, MatchBool, List, [], ◌∷◌, ◌++◌, ◌⊎◌, inl, inr, refl, sym, ◌∙◌, ap, subst, arith, Option, Some, None}
use Rattle.std.specs.Prelude.{option_to_list}
use Rattle.dm_space.specs.declared.place.Place.{Place}
use Rattle.dm_space.specs.Memory.{Memory, place}
use Rattle.dm_blocks.specs.declared.header.Header.{Header}
use Rattle.dm_blocks.specs.Chain.{HasHeader, IsClear}
use Rattle.dm_arena.specs.inner.Walks.{Fills}
use Rattle.dm_blocks.specs.inner.Standing.{MayStand, Occupies}
use Rattle.dm_arena.specs.inner.Standing.{MaySplit, IsNew}
use Rattle.dm_blocks.proofs.Chains.{has_left, has_right, has_either}
use Rattle.dm_blocks.proofs.Stands.{clear-with, unclear-with}

-- beside fewer headers
pub stand-within : (S : Memory) (L M : List Header) (new : Option Header) → ((g : ℕ) → HasHeader M g → HasHeader L g) →
    MaySplit S L new → MaySplit S M new
stand-within S L M None in' m = tt
stand-within S L M (Some b) in' m = record { writable = m.writable; apart = λ g w. m.apart g (in' g w) }

pub new-within : (L M : List Header) (new : Option Header) → ((g : ℕ) → HasHeader M g → HasHeader L g) → IsNew L new →
    IsNew M new
new-within L M None in' n = tt
new-within L M (Some b) in' n = λ w. n (in' b.segment w)

-- a block that is cut: its first header is where the block's was
pub cut-either : (P : List Header) (b f : Header) (o : Option Header) (Q : List Header) → f.segment ≡ b.segment →
    (g : ℕ) → HasHeader (P ++ ((f ∷ option_to_list o) ++ Q)) g → HasHeader (P ++ b ∷ Q) g ⊎
    HasHeader (option_to_list o) g
cut-either P b f o Q e g w = elim (has_either P ((f ∷ option_to_list o) ++ Q) g w) [
  | inl l ↦ inl (has_left P (b ∷ Q) g l)
  | inr r ↦ elim r [
    | inl q ↦ inl (has_right P (b ∷ Q) g (inl (sym e ∙ q)))
    | inr q ↦ elim (has_either (option_to_list o) Q g q) [
      | inl n ↦ inr n
      | inr t ↦ inl (has_right P (b ∷ Q) g (inr t))
    ]
  ]
]

pub cut-has : (P : List Header) (b f : Header) (o : Option Header) (Q : List Header) → f.segment ≡ b.segment → (g : ℕ) →
    HasHeader (P ++ b ∷ Q) g → HasHeader (P ++ ((f ∷ option_to_list o) ++ Q)) g
cut-has P b f o Q e g w = elim (has_either P (b ∷ Q) g w) [
  | inl l ↦ has_left P ((f ∷ option_to_list o) ++ Q) g l
  | inr r ↦ elim r [
    | inl q ↦ has_right P ((f ∷ option_to_list o) ++ Q) g (inl (e ∙ q))
    | inr q ↦ has_right P ((f ∷ option_to_list o) ++ Q) g (inr (has_right (option_to_list o) Q g q))
  ]
]

pub cut-new : (P : List Header) (f : Header) (o : Option Header) (Q : List Header) (g : ℕ) →
    HasHeader (option_to_list o) g → HasHeader (P ++ ((f ∷ option_to_list o) ++ Q)) g
cut-new P f o Q g w = has_right P ((f ∷ option_to_list o) ++ Q) g (inr (has_left (option_to_list o) Q g w))

one : (b : Header) (g : ℕ) → HasHeader (b ∷ []) g → g ≡ b.segment
one b g (inl e) = sym e
one b g (inr x) = absurd x

pub clear-cut : (S : Memory) (P : List Header) (b : Header) (Q : List Header) (f : Header) (o : Option Header) →
    f.segment ≡ b.segment → IsClear S (P ++ b ∷ Q) → MaySplit S (P ++ b ∷ Q) o →
    IsClear S (P ++ ((f ∷ option_to_list o) ++ Q))
clear-cut S P b Q f None e c m = record {
  writable = λ g w. c.writable g (back g w);
  apart = λ g h w v. c.apart g h (back g w) (back h v);
}
  where
    back : (g : ℕ) → HasHeader (P ++ ((f ∷ option_to_list None) ++ Q)) g → HasHeader (P ++ b ∷ Q) g
    back g w = elim (cut-either P b f None Q e g w) [ inl l ↦ l | inr r ↦ absurd r ]
clear-cut S P b Q f (Some d) e c m = clear-with S (P ++ b ∷ Q) d.segment _ c m
    (λ g w. elim (cut-either P b f (Some d) Q e g w) [ inl l ↦ inl l | inr r ↦ inr (one d g r) ])

pub unclear-cut : (S : Memory) (P : List Header) (b : Header) (Q : List Header) (f : Header) (o : Option Header) →
    f.segment ≡ b.segment → IsNew (P ++ b ∷ Q) o → (MaySplit S (P ++ b ∷ Q) o → ⊥) →
    IsClear S (P ++ ((f ∷ option_to_list o) ++ Q)) → ⊥
unclear-cut S P b Q f None e n bad c = bad tt
unclear-cut S P b Q f (Some d) e n bad c = unclear-with S (P ++ b ∷ Q) d.segment _ bad n (cut-has P b f (Some d) Q e)
    (cut-new P f (Some d) Q d.segment (inl refl)) c

-- the new header of a cut is within the block
pub new-cut : (P : List Header) (b : Header) (Q : List Header) (t : ℕ) (f : Header) (o : Option Header) →
    ((g : ℕ) → HasHeader P g → g < b.segment) → ((g : ℕ) → HasHeader Q g → t ≤ g) →
    Fills b.segment (f ∷ option_to_list o) t → IsNew (P ++ b ∷ Q) o
new-cut P b Q t f None below above x = tt
new-cut P b Q t f (Some d) below above x = λ w.
    (let at = x.0 in
    let behind = x.1.0 in
    let end = x.1.1 in
    elim (has_either P (b ∷ Q) d.segment w) [
      | inl l ↦ (let y = below d.segment l in omega arith)
      | inr r ↦ elim r [
        | inl q ↦ omega arith
        | inr q ↦ (let y = above d.segment q in omega arith)
      ]
    ])

-- which headers have a place
pub occupies-more : (S : Memory) (L M : List Header) (p : Place) → ((g : ℕ) → HasHeader L g → HasHeader M g) →
    Occupies S L p → Occupies S M p
occupies-more S L M p in' o = record { segment = o.segment; has = in' o.segment o.has; is = o.is }

pub occupies-either : (S : Memory) (L M : List Header) (p : Place) → Occupies S (L ++ M) p → Occupies S L p ⊎
    Occupies S M p
occupies-either S L M p o = elim (has_either L M o.segment o.has) [
  | inl l ↦ inl (record { segment = o.segment; has = l; is = o.is })
  | inr r ↦ inr (record { segment = o.segment; has = r; is = o.is })
]

pub occupied-beside : (S : Memory) (L M : List Header) (p : Place) → Occupies S L p → Occupies S (L ++ M) p
occupied-beside S L M p o = occupies-more S L (L ++ M) p (λ g w. has_left L M g w) o

pub occupied-both : (S : Memory) (L M : List Header) (p : Place) (r : Bool) → (Occupies S L p → ⊥) →
    MatchBool r (Occupies S M p) (Occupies S M p → ⊥) → MatchBool r (Occupies S (L ++ M) p) (Occupies S (L ++ M) p → ⊥)
occupied-both S L M p true n o = occupies-more S M (L ++ M) p (λ g w. has_right L M g w) o
occupied-both S L M p false n o = λ x. elim (occupies-either S L M p x) [ inl l ↦ n l | inr r ↦ o r ]

pub occupies-none : (S : Memory) (p : Place) → Occupies S [] p → ⊥
occupies-none S p o = o.has

occupies-head : (S : Memory) (b : Header) (L : List Header) (p : Place) → Occupies S (b ∷ L) p →
    (place S (16 * b.segment) ≡ p) ⊎ Occupies S L p
occupies-head S b L p o = elim o.has [
  | inl e ↦ inl (ap (λ x. place S (16 * x)) e ∙ o.is)
  | inr w ↦ inr (record { segment = o.segment; has = w; is = o.is })
]

pub occupies-one : (S : Memory) (b : Header) (p : Place) (r : Bool) →
    MatchBool r (place S (16 * b.segment) ≡ p) (place S (16 * b.segment) ≢ p) →
    MatchBool r (Occupies S (b ∷ []) p) (Occupies S (b ∷ []) p → ⊥)
occupies-one S b p true e = record { segment = b.segment; has = inl refl; is = e }
occupies-one S b p false n = λ o. elim (occupies-head S b [] p o) [ inl e ↦ n e | inr x ↦ x.has ]

-- a new header, where there is one
pub split-none : (S : Memory) (L : List Header) (new : Option Header) → new ≡ None → MaySplit S L new
split-none S L new is = (let F : Option Header → Type 0 = λ x. MaySplit S L x in subst F (sym is) tt)

module _ (S : Memory) (L : List Header) (new : Option Header) (b : Header) (is : new ≡ Some b) where
  pub new-at : IsNew L new → HasHeader L b.segment → ⊥
  new-at n = (let F : Option Header → Type 0 = λ x. IsNew L x in subst F is n)

  pub split-at : MayStand S L b.segment → MaySplit S L new
  split-at m = (let F : Option Header → Type 0 = λ x. MaySplit S L x in subst F (sym is) m)

  pub split-not : (MayStand S L b.segment → ⊥) → MaySplit S L new → ⊥
  split-not bad m = (let F : Option Header → Type 0 = λ x. MaySplit S L x in bad (subst F is m))

pub split-decides : (S : Memory) (L : List Header) (new : Option Header) (b : Header) (r : Bool) → new ≡ Some b →
    MatchBool r (MayStand S L b.segment) (MayStand S L b.segment → ⊥) →
    MatchBool r (MaySplit S L new) (MaySplit S L new → ⊥)
split-decides S L new b true is m = split-at S L new b is m
split-decides S L new b false is m = split-not S L new b is m
