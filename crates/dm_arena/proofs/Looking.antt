-- Steps of the walks that look for a header on a place.
use Rattle.std.proofs.Common.{◌≡◌, ◌≢◌, ℕ, ◌*◌, ◌≤◌, Bool, true, false, MatchBool, List, [], ◌∷◌, ◌⊎◌, inl, inr, refl, sym, ◌∙◌, ap, subst}
use Rattle.dm_space.specs.declared.place.Place.{Place}
use Rattle.dm_space.specs.Memory.{Memory, place}
use Rattle.dm_blocks.specs.declared.header.Header.{Header}
use Rattle.dm_blocks.specs.declared.header.ListedHeader.{ListedHeader}
use Rattle.dm_blocks.specs.Chain.{IsNonEmpty, Spells, next}
use Rattle.dm_arena.specs.Blocks.{join}
use Rattle.dm_blocks.specs.inner.Standing.{Occupies}
use Rattle.dm_arena.specs.inner.Standing.{AreOutside, OccupiesOutside}
use Rattle.dm_blocks.specs.Reading.{is_nil, IsFront, IsSpelledFrom}
use Rattle.dm_arena.specs.inner.Walks.{IsJoinedFront, IsLooking, IsLookingOutside}

nil_of : (X : List Header) → is_nil X ≡ true → X ≡ []
nil_of [] e = refl
nil_of (x ∷ X) e = absurd (let y : false ≡ true = e in cc)

nonempty_by : (X : List Header) → is_nil X ≡ false → IsNonEmpty X
nonempty_by [] e = absurd (let y : true ≡ false = e in cc)
nonempty_by (x ∷ X) e = tt

spelled_at : (S : Memory) (e : ListedHeader) (N : List Header) → e.last ≡ is_nil N → Spells S (next e.header) N →
    e.last ≡ false → (t : ℕ) → t ≡ next e.header → IsSpelledFrom S t N
spelled_at S e N last rest l t ist = record {
  nonempty = nonempty_by N (sym last ∙ l);
  spells = (let F : ℕ → Type 0 = λ x. Spells S x N in subst F (sym ist) rest);
}

-- among those that are not between two segments
pub outside-start : (S : Memory) (h : ℕ) (L : List Header) (low high : ℕ) (p : Place) → IsSpelledFrom S h L →
    IsLookingOutside S L low high p h L
outside-start S h L low high p s = record { spelled = s; forth = λ o. o; back = λ o. o }

module _ (S : Memory) (L : List Header) (low high : ℕ) (p : Place) (h : ℕ) (K : List Header)
    (l : IsLookingOutside S L low high p h K) (e : ListedHeader) (there : e.header.segment ≡ h) (N : List Header)
    (f : IsFront S K e N) where
  outside-here : ((h ≤ low) ⊎ (high ≤ h)) × (place S (16 * h) ≡ p) → OccupiesOutside S L low high p
  outside-here is =
      let F : List Header → Type 0 = λ X. OccupiesOutside S X low high p in
      let G : ℕ → Type 0 = λ x. (x ≤ low) ⊎ (high ≤ x) in
      l.back (subst F (sym f.is) (record {
        segment = e.header.segment;
        has = inl refl;
        outside = subst G (sym there) is.0;
        is = ap (λ x. place S (16 * x)) there ∙ is.1;
      }))

  outside-rest : ((h ≤ low) ⊎ (high ≤ h) → place S (16 * h) ≢ p) → OccupiesOutside S L low high p →
      OccupiesOutside S N low high p
  outside-rest ne o =
      let F : List Header → Type 0 = λ X. OccupiesOutside S X low high p in
      let G : ℕ → Type 0 = λ x. (x ≤ low) ⊎ (high ≤ x) in
      let x : OccupiesOutside S (e.header ∷ N) low high p = subst F f.is (l.forth o) in
      elim x.has [
        | inl q ↦ absurd (ne (subst G (sym q ∙ there) x.outside) (ap (λ y. place S (16 * y)) (sym there ∙ q) ∙ x.is))
        | inr w ↦ record { segment = x.segment; has = w; outside = x.outside; is = x.is }
      ]

  outside-none : ((h ≤ low) ⊎ (high ≤ h) → place S (16 * h) ≢ p) → e.last ≡ true → OccupiesOutside S L low high p → ⊥
  outside-none ne last o =
      let F : List Header → Type 0 = λ X. OccupiesOutside S X low high p in
      let x : OccupiesOutside S [] low high p = subst F (nil_of N (sym f.last ∙ last)) (outside-rest ne o) in
      x.has

  pub outside-more : ((h ≤ low) ⊎ (high ≤ h) → place S (16 * h) ≢ p) → e.last ≡ false → (t : ℕ) → t ≡ next e.header →
      (M : List Header) × IsLookingOutside S L low high p t M
  outside-more ne last t ist = (
    N,
    record {
      spelled = spelled_at S e N f.last f.rest last t ist;
      forth = outside-rest ne;
      back = λ o. (let F : List Header → Type 0 = λ X. OccupiesOutside S X low high p in
          l.back (subst F (sym f.is) (record {
            segment = o.segment;
            has = inr o.has;
            outside = o.outside;
            is = o.is;
          })));
    },
  )

  module _ (M : List Header) (m : AreOutside L low high M) where
    pub found-outside : ((h ≤ low) ⊎ (high ≤ h)) × (place S (16 * h) ≡ p) → Occupies S M p
    found-outside is = (let o = outside-here is in record {
      segment = o.segment;
      has = m.has o.segment o.has o.outside;
      is = o.is;
    })

    pub none-outside : ((h ≤ low) ⊎ (high ≤ h) → place S (16 * h) ≢ p) → e.last ≡ true → Occupies S M p → ⊥
    none-outside ne last o = outside-none ne last (record {
      segment = o.segment;
      has = m.within o.segment o.has;
      outside = m.outside o.segment o.has;
      is = o.is;
    })

-- a test of the place, where the segment is outside
pub outside-decides : (r : Bool) (A B : Type 0) → A → MatchBool r B (B → ⊥) → MatchBool r (A × B) (A → B → ⊥)
outside-decides true A B a b = (a, b)
outside-decides false A B a b = λ _. b

module _ (up : Bool) where
  -- among the headers of the joined list
  pub looking-start : (S : Memory) (h : ℕ) (L : List Header) (p : Place) → IsSpelledFrom S h L → IsLooking up S L p h L
  looking-start S h L p s = record { spelled = s; forth = λ o. o; back = λ o. o }

  module _ (S : Memory) (L : List Header) (p : Place) (h : ℕ) (K : List Header) (l : IsLooking up S L p h K)
      (e : ListedHeader) (there : e.header.segment ≡ h) (N : List Header) (f : IsJoinedFront up S K e N) where
    pub looked-here : place S (16 * h) ≡ p → Occupies S (join up L) p
    looked-here is =
        let F : List Header → Type 0 = λ X. Occupies S X p in
        l.back (subst F (sym f.is) (record {
          segment = e.header.segment;
          has = inl refl;
          is = ap (λ x. place S (16 * x)) there ∙ is;
        }))

    rest-of : place S (16 * h) ≢ p → Occupies S (join up L) p → Occupies S (join up N) p
    rest-of ne o =
        let F : List Header → Type 0 = λ X. Occupies S X p in
        let x : Occupies S (e.header ∷ join up N) p = subst F f.is (l.forth o) in
        elim x.has [
          | inl q ↦ absurd (ne (ap (λ y. place S (16 * y)) (sym there ∙ q) ∙ x.is))
          | inr w ↦ record { segment = x.segment; has = w; is = x.is }
        ]

    pub looked-none : place S (16 * h) ≢ p → e.last ≡ true → Occupies S (join up L) p → ⊥
    looked-none ne last o =
        let F : List Header → Type 0 = λ X. Occupies S (join up X) p in
        let x : Occupies S [] p = subst F (nil_of N (sym f.last ∙ last)) (rest-of ne o) in
        x.has

    pub looked-more : place S (16 * h) ≢ p → e.last ≡ false → (t : ℕ) → t ≡ next e.header → (M : List Header) ×
        IsLooking up S L p t M
    looked-more ne last t ist = (
      N,
      record {
        spelled = spelled_at S e N f.last f.rest last t ist;
        forth = rest-of ne;
        back = λ o. (let F : List Header → Type 0 = λ X. Occupies S X p in
            l.back (subst F (sym f.is) (record { segment = o.segment; has = inr o.has; is = o.is })));
      },
    )
