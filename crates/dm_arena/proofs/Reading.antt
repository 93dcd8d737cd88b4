-- Steps of the walks that read.
use Rattle.std.proofs.Common.{Bool, ◌≡◌, ℕ, ◌+◌, ◌*◌, true, false, List, [], ◌∷◌, inr, refl, sym, ◌∙◌, ap, subst, arith}
use Rattle.dm_space.specs.Memory.{Memory, peek}
use Rattle.dm_blocks.specs.declared.header.Header.{Header}
use Rattle.dm_blocks.specs.declared.header.ListedHeader.{ListedHeader}
use Rattle.dm_blocks.specs.Chain.{word, IsHeader, Spells, HasHeader, next}
use Rattle.dm_blocks.specs.Reading.{IsFront, IsSpelledFrom}
use Rattle.dm_arena.specs.inner.Walks.{IsJoining, IsJoinedFront}
use Rattle.dm_blocks.specs.Chain.{is_free}
use Rattle.dm_arena.specs.Blocks.{merge, join, join_after}

pub spells-at : (S : Memory) (h k : ℕ) (L : List Header) → h ≡ k → Spells S h L → Spells S k L
spells-at S h k L e s = let P : ℕ → Type 0 = λ x. Spells S x L in subst P e s

module _ (up : Bool) where
  unfoldable pub joining_start : (S : Memory) (L : List Header) (e : ListedHeader) → (K : List Header) ×
      IsFront S L e K → (K : List Header) × IsJoining up S L e K
  joining_start S L e (K, f) = (
    K,
    record {
      is = ap (join up) f.is;
      last = f.last;
      rest = f.rest;
      within = λ g w. rw f.is (inr w);
    },
  )

  join_after-free : (b c : Header) (L : List Header) → is_free up b ≡ true → is_free up c ≡ true →
      join_after up b (c ∷ L) ≡ join_after up (merge b c) L
  join_after-free b c L fb fc = rw (fb, fc) refl

  pub joining_more : (S : Memory) (L : List Header) (e a : ListedHeader) (K : List Header) → IsJoining up S L e K →
      e.last ≡ false → is_free up e.header ≡ true → is_free up a.header ≡ true → a.header.segment ≡ next e.header →
      (t : ℕ) → t ≡ next e.header → ((M : List Header) → IsSpelledFrom S t M → (N : List Header) × IsFront S M a N) →
      (N : List Header) × IsJoining up S L (record { header = merge e.header a.header; last = a.last }) N
  joining_more S L e a [] j l fe fa there t ist front = absurd (let x : false ≡ true = sym l ∙ j.last in cc)
  joining_more S L e a (c ∷ K) j l fe fa there t ist front =
      let r = front (c ∷ K) (record { nonempty = tt; spells = spells-at S _ _ (c ∷ K) (sym ist) j.rest }) in
      let N = r.0 in
      let f : IsFront S (c ∷ K) a N = r.1 in (
        N,
        record {
          is = j.is ∙ ap (join_after up e.header) f.is ∙ join_after-free e.header a.header N fe fa;
          last = f.last;
          rest = spells-at S _ _ N (omega arith) f.rest;
          within = λ g w. j.within g (let P : List Header → Type 0 = λ M. HasHeader M g in subst P (sym f.is) (inr w));
        },
      )

  unfoldable pub exit_last : (S : Memory) (L : List Header) (e : ListedHeader) → e.last ≡ true → (K : List Header) ×
      IsJoining up S L e K → (K : List Header) × IsJoinedFront up S L e K
  exit_last S L e l ([], j) = ([], record { is = j.is; last = j.last; rest = j.rest; within = j.within })
  exit_last S L e l (c ∷ K, j) = absurd (let x : true ≡ false = sym l ∙ j.last in cc)

  pub join_after-taken : (b c : Header) (L : List Header) → is_free up b ≡ false → join_after up b (c ∷ L) ≡ b
      ∷ join up (c ∷ L)
  join_after-taken b c L fb = rw fb refl

  pub join_after-before_taken : (b c : Header) (L : List Header) → is_free up b ≡ true → is_free up c ≡ false →
      join_after up b (c ∷ L) ≡ b ∷ join up (c ∷ L)
  join_after-before_taken b c L fb fc = rw (fb, fc) refl

  unfoldable pub exit_taken : (S : Memory) (L : List Header) (e : ListedHeader) → is_free up e.header ≡ false →
      (K : List Header) × IsJoining up S L e K → (K : List Header) × IsJoinedFront up S L e K
  exit_taken S L e f ([], j) = ([], record { is = j.is; last = j.last; rest = j.rest; within = j.within })
  exit_taken S L e f (c ∷ K, j) = (
    c ∷ K,
    record {
      is = j.is ∙ join_after-taken e.header c K f;
      last = j.last;
      rest = j.rest;
      within = j.within;
    },
  )

  unfoldable pub exit_before_taken : (S : Memory) (L : List Header) (e a : ListedHeader) → e.last ≡ false →
      is_free up e.header ≡ true → is_free up a.header ≡ false → (t : ℕ) → t ≡ next e.header →
      ((M : List Header) → IsSpelledFrom S t M → (N : List Header) × IsFront S M a N) → (K : List Header) ×
      IsJoining up S L e K → (K : List Header) × IsJoinedFront up S L e K
  exit_before_taken S L e a l fe fa t ist front ([], j) = absurd (let x : false ≡ true = sym l ∙ j.last in cc)
  exit_before_taken S L e a l fe fa t ist front (c ∷ K, j) =
      let r = front (c ∷ K) (record { nonempty = tt; spells = spells-at S _ _ (c ∷ K) (sym ist) j.rest }) in
      let f : IsFront S (c ∷ K) a r.0 = r.1 in
      let fc : is_free up c ≡ false = let x : c ≡ a.header = (let y = f.is in cc) in rw x fa in (
        c ∷ K,
        record {
          is = j.is ∙ join_after-before_taken e.header c K fe fc;
          last = j.last;
          rest = j.rest;
          within = j.within;
        },
      )

  -- what is left to walk from a header that is not the last
  pub next_spelled : (S : Memory) (L : List Header) (e : ListedHeader) → e.last ≡ false → (K : List Header) ×
      IsJoining up S L e K → (K : List Header) × IsSpelledFrom S (next e.header) K
  next_spelled S L e l ([], j) = absurd (let x : false ≡ true = sym l ∙ j.last in cc)
  next_spelled S L e l (c ∷ K, j) = (c ∷ K, record { nonempty = tt; spells = j.rest })
