-- Steps of the search over the joined list.
use Rattle.std.proofs.Common.{Bool, ◌≡◌, ℕ, true, false, max, List, [], ◌∷◌, ◌++◌, refl, sym, ◌∙◌, ap, subst, arith, Option, None}
use Rattle.std.specs.Prelude.{option_to_list}
use Rattle.dm_space.specs.Memory.{Memory}
use Rattle.dm_blocks.specs.declared.header.Header.{Header}
use Rattle.dm_blocks.specs.declared.header.ListedHeader.{ListedHeader}
use Rattle.dm_arena.specs.declared.fit.Strategy.{Strategy}
use Rattle.dm_arena.specs.declared.fit.Spoken.{Spoken}
use Rattle.dm_arena.specs.declared.fit.Choice.{Choice}
use Rattle.dm_blocks.specs.Chain.{Spells, IsNonEmpty, next}
use Rattle.dm_blocks.specs.Reading.{is_nil, IsSpelledFrom}
use Rattle.dm_arena.specs.inner.Walks.{pick, better, left_of, left_part, IsChoosing, IsJoinedFront}
use Rattle.dm_arena.specs.Blocks.{join, largest, free_size}

max-assoc : (a b c : ℕ) → max a (max b c) ≡ max (max a b) c
max-assoc a b c = omega arith

max-zero : (a : ℕ) → max a 0 ≡ a
max-zero a = omega arith

zero-max : (a : ℕ) → a ≡ max 0 a
zero-max a = omega arith

pub left-all : (J : List Header) → left_of None J ≡ J
left-all [] = refl
left-all (b ∷ J) = ap (λ X. b ∷ X) (left-all J)

module _ (up : Bool) where
  pub pick-append : (st : Strategy) (n : ℕ) (best : Option Header) (X Y : List Header) →
      pick up st n best (X ++ Y) ≡ pick up st n (pick up st n best X) Y
  pick-append st n best [] Y = refl
  pick-append st n best (x ∷ X) Y = pick-append st n (better up st n best x) X Y

  pub largest-append : (st : Strategy) (X Y : List Header) → largest up st (X ++ Y)
      ≡ max (largest up st X) (largest up st Y)
  largest-append st [] Y = zero-max (largest up st Y)
  largest-append st (x ∷ X) Y = ap (max (free_size up st x)) (largest-append st X Y)
      ∙ max-assoc (free_size up st x) (largest up st X) (largest up st Y)

  module _ (S : Memory) (L : List Header) (st : Strategy) (n : ℕ) (spoken : Option Spoken) (h : ℕ) (choice : Choice)
      (K : List Header) (c : IsChoosing up S L st n spoken h choice K) (e : ListedHeader) (N : List Header)
      (f : IsJoinedFront up S K e N) (more : Choice) (block : more.block ≡ pick up st n choice.block
      (option_to_list (left_part spoken e.header))) (most : more.largest
      ≡ max choice.largest (largest up st (option_to_list (left_part spoken e.header)))) where
    pub met_block : pick up st n more.block (left_of spoken (join up N))
        ≡ pick up st n None (left_of spoken (join up L))
    met_block =
        ap (λ x. pick up st n x (left_of spoken (join up N))) block
        ∙ sym (pick-append st n choice.block (option_to_list (left_part spoken e.header)) (left_of spoken (join up N)))
        ∙ ap (λ X. pick up st n choice.block (left_of spoken X)) (sym f.is) ∙ c.block_is

    pub met_largest : max more.largest (largest up st (left_of spoken (join up N)))
        ≡ largest up st (left_of spoken (join up L))
    met_largest =
        ap (λ x. max x (largest up st (left_of spoken (join up N)))) most
        ∙ sym (max-assoc choice.largest (largest up st (option_to_list (left_part spoken e.header)))
        (largest up st (left_of spoken (join up N))))
        ∙ ap (max choice.largest) (sym (largest-append st (option_to_list (left_part spoken e.header))
        (left_of spoken (join up N))))
        ∙ ap (λ X. max choice.largest (largest up st (left_of spoken X))) (sym f.is) ∙ c.largest_is

    unfoldable pub met_more : e.last ≡ false → (t : ℕ) → t ≡ next e.header → (M : List Header) ×
        IsChoosing up S L st n spoken t more M
    met_more l t ist = (
      N,
      record {
        spelled = record {
          nonempty = nonempty_by N (sym f.last ∙ l);
          spells = (let F : ℕ → Type 0 =
              λ x. Spells S x N in subst F (sym ist) f.rest);
        };
        block_is = met_block;
        largest_is = met_largest;
      },
    )
      where
        nonempty_by : (X : List Header) → is_nil X ≡ false → IsNonEmpty X
        nonempty_by [] z = absurd (let y : true ≡ false = z in cc)
        nonempty_by (x ∷ X) z = tt

    pub all_block : e.last ≡ true → more.block ≡ pick up st n None (left_of spoken (join up L))
    all_block l = by N (sym f.last ∙ l) met_block
      where
        by : (X : List Header) → is_nil X ≡ true → pick up st n more.block (left_of spoken (join up X))
            ≡ pick up st n None (left_of spoken (join up L)) →
            more.block ≡ pick up st n None (left_of spoken (join up L))
        by [] z m = m
        by (x ∷ X) z m = absurd (let y : false ≡ true = z in cc)

    pub all_largest : e.last ≡ true → more.largest ≡ largest up st (left_of spoken (join up L))
    all_largest l = by N (sym f.last ∙ l) met_largest
      where
        by : (X : List Header) → is_nil X ≡ true → max more.largest (largest up st (left_of spoken (join up X)))
            ≡ largest up st (left_of spoken (join up L)) → more.largest ≡ largest up st (left_of spoken (join up L))
        by [] z m = sym (max-zero more.largest) ∙ m
        by (x ∷ X) z m = absurd (let y : false ≡ true = z in cc)

  pub choosing_all : (S : Memory) (L : List Header) (st : Strategy) (n : ℕ) (spoken : Option Spoken) (h : ℕ) →
      IsSpelledFrom S h L → IsChoosing up S L st n spoken h (record { block = None; largest = 0 }) L
  choosing_all S L st n spoken h s = record { spelled = s; block_is = refl; largest_is = sym (zero-max _) }

  -- where no block is spoken for, and the strategy s is t
  pub chosen : (s t : Strategy) (n : ℕ) (L : List Header) (c : Option Header) (d : Option Header) → s ≡ t →
      c ≡ pick up s n None (left_of None (join up L)) → c ≡ d → pick up t n None (join up L) ≡ d
  chosen s t n L c d is e f = ap (λ x. pick up x n None (join up L)) (sym is)
      ∙ ap (pick up s n None) (sym (left-all (join up L))) ∙ sym e ∙ f

  pub room : (s t : Strategy) (L : List Header) (m : ℕ) → s ≡ t → m ≡ largest up s (left_of None (join up L)) →
      m ≡ largest up t (join up L)
  room s t L m is e = e ∙ ap (largest up s) (left-all (join up L)) ∙ ap (λ x. largest up x (join up L)) is
