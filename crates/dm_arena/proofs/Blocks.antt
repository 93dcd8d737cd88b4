-- What becomes of the list where a block is freed.
use Rattle.std.proofs.Common.{Bool, ◌≡◌, ℕ, false, List, [], ◌∷◌, ◌++◌, inl, inr, refl, sym, ◌∙◌, subst}
use Rattle.dm_space.specs.Memory.{Memory}
use Rattle.dm_blocks.specs.declared.header.Header.{Header}
use Rattle.dm_blocks.specs.declared.header.ListedHeader.{ListedHeader}
use Rattle.dm_blocks.specs.Chain.{Spells, HasHeader, IsNonEmpty, next, IsClear, IsArena, Becomes}
use Rattle.dm_blocks.specs.Reading.{IsFoundAt}
use Rattle.dm_arena.specs.inner.Walks.{IsReplaceable, IsReplaced}
use Rattle.dm_arena.specs.Owned.{BlockAt, freed, is_link_block}
use Rattle.dm_blocks.proofs.Chains.{has_left, has_right, has_either, clear_within}

-- one header changes in place
nonempty : (P : List Header) (d : Header) (Q : List Header) → IsNonEmpty (P ++ d ∷ Q)
nonempty [] d Q = tt
nonempty (q ∷ P) d Q = tt

has_changed : (P : List Header) (b c : Header) (Q : List Header) → c.segment ≡ b.segment → (g : ℕ) →
    HasHeader (P ++ c ∷ Q) g → HasHeader (P ++ b ∷ Q) g
has_changed P b c Q e g w = elim (has_either P (c ∷ Q) g w) [
  | inl l ↦ has_left P (b ∷ Q) g l
  | inr r ↦ elim r [ inl q ↦ has_right P (b ∷ Q) g (inl (sym e ∙ q)) | inr q ↦ has_right P (b ∷ Q) g (inr q) ]
]

module _ (up : Bool) where
  module _ (S : Memory) (start : ℕ) (L : List Header) (segment : ℕ) (e : ListedHeader) (P Q : List Header)
      (a : IsArena S start L) (f : IsFoundAt S L segment e P Q) (other : is_link_block up segment ≡ false) where
    clear : IsClear S (P ++ freed e.header ∷ Q)
    clear = clear_within S (P ++ e.header ∷ Q) _ (has_changed P e.header (freed e.header) Q refl) (let F : List Header →
        Type 0 = λ X. IsClear S X in subst F f.is a.1)

    pub freeing : IsReplaceable S start P (e.header ∷ []) Q (freed e.header ∷ []) e.last e.header.segment
        (next e.header)
    freeing = record {
      nonempty = tt;
      spells = (let F : List Header → Type 0 = λ X. Spells S start X in subst F f.is a.0.1);
      old_fills = (refl, refl);
      new_fills = (refl, refl);
      end = f.last;
      clear = clear;
    }

    pub frees : (T : Memory) → IsReplaced S start P Q (freed e.header ∷ []) T → (b : BlockAt up S start segment) ×
        Becomes S start (b.before ++ freed b.block ∷ b.after) T
    frees T r = (
      record { list = L; before = P; block = e.header; after = Q; arena = a; is = f.is; at = f.at; other = other },
      record {
        clear = clear;
        chain = (nonempty P (freed e.header) Q, r.spells);
        differs = record {
          shape = r.differs.shape;
          kept = λ p ne. r.differs.kept p (λ h k w. ne h k (elim w [
            | inl q ↦
                has_right P (freed e.header ∷ Q) h (inl q)
            | inr z ↦ absurd z
          ]));
        };
      },
    )
