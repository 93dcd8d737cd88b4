-- When a header may stand beside others, and what a list with it is then.
use Rattle.std.proofs.Common.{◌≡◌, ℕ, ◌*◌, Bool, true, false, not, MatchBool, List, ◌⊎◌, inl, inr, sym, ◌∙◌, ap, subst, arith}
use Rattle.dm_space.specs.declared.place.Place.{Place}
use Rattle.dm_space.specs.declared.place.Place.TheVariants.{Low, Page, Rom, Nothing}
use Rattle.dm_space.specs.Memory.{Memory, place}
use Rattle.dm_space.specs.Places.{IsWritable}
use Rattle.dm_blocks.specs.declared.header.Header.{Header}
use Rattle.dm_blocks.specs.Chain.{HasHeader, IsClear}
use Rattle.dm_blocks.specs.inner.Standing.{MayStand, Occupies}
use Rattle.dm_blocks.proofs.Places.{low-own}

-- a segment's place, as it is asked for
pub place-of : (S : Memory) (h : ℕ) (p q : Place) → q ≡ place S (h * 16) → q ≡ p → place S (16 * h) ≡ p
place-of S h p q e f = ap (place S) (omega arith) ∙ sym e ∙ f

pub low-stands : (S : Memory) (L : List Header) (h l : ℕ) → place S (16 * h) ≡ Low l → (HasHeader L h → ⊥) →
    MayStand S L h
low-stands S L h l e new = record {
  writable = subst IsWritable (sym e) tt;
  apart = λ g w same. (let F : ℕ → Type 0 = λ x. HasHeader L x in
      let a : 16 * g ≡ l = low-own S (16 * g) l (same ∙ e) in
      let b : 16 * h ≡ l = low-own S (16 * h) l e in
      let at : g ≡ h = omega arith in
      new (subst F at w));
}

pub page-stands : (S : Memory) (L : List Header) (h b k : ℕ) → place S (16 * h) ≡ Page b k →
    (Occupies S L (Page b k) → ⊥) → MayStand S L h
page-stands S L h b k e free = record {
  writable = subst IsWritable (sym e) tt;
  apart = λ g w same. free (record { segment = g; has = w; is = same ∙ e });
}

pub occupied-stands : (S : Memory) (L : List Header) (h : ℕ) (p : Place) → place S (16 * h) ≡ p → Occupies S L p →
    MayStand S L h → ⊥
occupied-stands S L h p e o m = m.apart o.segment o.has (o.is ∙ sym e)

rom-stands : (S : Memory) (L : List Header) (h k : ℕ) → place S (16 * h) ≡ Rom k → MayStand S L h → ⊥
rom-stands S L h k e m = subst IsWritable e m.writable

nothing-stands : (S : Memory) (L : List Header) (h : ℕ) → place S (16 * h) ≡ Nothing → MayStand S L h → ⊥
nothing-stands S L h e m = subst IsWritable e m.writable

pub lost-stands : (S : Memory) (L : List Header) (h : ℕ) (q : Place) → q ≡ place S (h * 16) → ((k : ℕ) × (q ≡ Rom k)) ⊎
    (q ≡ Nothing) → MayStand S L h → ⊥
lost-stands S L h q e (inl r) = rom-stands S L h r.0 (place-of S h (Rom r.0) q e r.1)
lost-stands S L h q e (inr r) = nothing-stands S L h (place-of S h Nothing q e r)

pub page-decides : (S : Memory) (L : List Header) (h b k : ℕ) (r : Bool) → place S (16 * h) ≡ Page b k →
    MatchBool r (Occupies S L (Page b k)) (Occupies S L (Page b k) → ⊥) →
    MatchBool (not r) (MayStand S L h) (MayStand S L h → ⊥)
page-decides S L h b k true e o = occupied-stands S L h (Page b k) e o
page-decides S L h b k false e o = page-stands S L h b k e o

-- a list with a new header
pub clear-with : (S : Memory) (L : List Header) (h : ℕ) (M : List Header) → IsClear S L → MayStand S L h →
    ((g : ℕ) → HasHeader M g → HasHeader L g ⊎ (g ≡ h)) → IsClear S M
clear-with S L h M c m either = record {
  writable = λ g w. elim (either g w) [
    | inl l ↦ c.writable g l
    | inr e ↦ (let F : ℕ → Type 0 = λ x. IsWritable (place S (16 * x)) in subst F (sym e) m.writable)
  ];
  apart = λ g f w v same. elim (either g w) [
    | inl l ↦ elim (either f v) [
      | inl k ↦ c.apart g f l k same
      | inr e ↦ absurd (m.apart g l (same ∙ ap (λ x. place S (16 * x)) e))
    ]
    | inr d ↦ elim (either f v) [
      | inl k ↦ absurd (m.apart f k (sym same ∙ ap (λ x. place S (16 * x)) d))
      | inr e ↦ d ∙ sym e
    ]
  ];
}

pub unclear-with : (S : Memory) (L : List Header) (h : ℕ) (M : List Header) → (MayStand S L h → ⊥) →
    (HasHeader L h → ⊥) → ((g : ℕ) → HasHeader L g → HasHeader M g) → HasHeader M h → IsClear S M → ⊥
unclear-with S L h M bad new in' w c = bad (record {
  writable = c.writable h w;
  apart = λ g v same. (let F : ℕ → Type 0 = λ x. HasHeader L x in new (subst F (c.apart g h (in' g v) w same) v));
})
