-- The step of the pass that frees each block of an owner.
use Rattle.std.proofs.Common.{◌≡◌, ℕ, Bool, true, false, List, [], ◌∷◌, ◌++◌, inl, inr, refl, sym, ◌∙◌, ap, subst, append_assoc}
use Rattle.dm_space.specs.Memory.{Memory}
use Rattle.dm_space.proofs.Places.{place-shaped, shaped-then}
use Rattle.dm_blocks.specs.declared.header.Header.{Header}
use Rattle.dm_blocks.specs.declared.header.ListedHeader.{ListedHeader}
use Rattle.dm_blocks.specs.Chain.{Spells, HasHeader, IsNonEmpty, next, IsArena, Becomes, DiffersInHeaders}
use Rattle.dm_blocks.specs.Reading.{is_nil, IsFront}
use Rattle.dm_arena.specs.inner.Walks.{IsReplaceable, IsReplaced, IsReleasing}
use Rattle.dm_arena.specs.Owned.{released, released_block}
use Rattle.dm_blocks.proofs.Chains.{has_left, has_right, has_either, spells_end, clear_within, clear_map}

pub released-has : (o : ℕ) (P : List Header) (g : ℕ) → HasHeader (released o P) g → HasHeader P g
released-has o [] g w = w
released-has o (p ∷ P) g w = elim w [ inl e ↦ inl e | inr r ↦ inr (released-has o P g r) ]

released-append : (o : ℕ) (P Q : List Header) → released o (P ++ Q) ≡ released o P ++ released o Q
released-append o [] Q = refl
released-append o (p ∷ P) Q = ap (λ x. released_block o p ∷ x) (released-append o P Q)

append_nil : (P : List Header) → P ++ [] ≡ P
append_nil [] = refl
append_nil (p ∷ P) = ap (λ q. p ∷ q) (append_nil P)

module _ (S : Memory) (start : ℕ) (o : ℕ) (L : List Header) (T : Memory) (h : ℕ) (P K : List Header) (e : ListedHeader)
    (c : Header) (a : IsArena S start L) (r : IsReleasing S start o L T h P K) (N : List Header) (f : IsFront T K e N)
    (is : c ≡ released_block o e.header) where
  whole : L ≡ P ++ e.header ∷ N
  whole = r.is ∙ ap (λ X. P ++ X) f.is

  at : c.segment ≡ e.header.segment
  at = ap (λ z. z.segment) is

  next_at : next c ≡ next e.header
  next_at = ap next is

  spelled : Spells T start (released o P ++ e.header ∷ N)
  spelled = let F : List Header → Type 0 = λ X. Spells T start (released o P ++ X) in subst F f.is r.spells

  pub releasing : IsReplaceable T start (released o P) (e.header ∷ []) N (c
      ∷ []) e.last e.header.segment (next e.header)
  releasing = record {
    nonempty = tt;
    spells = spelled;
    old_fills = (refl, refl);
    new_fills = (at, next_at);
    end = f.last;
    clear = clear_map S T _ (place-shaped S T r.differs.shape) (clear_within S L _ (λ g w. (let F : List Header →
        Type 0 = λ X. HasHeader X g in subst F (sym whole) (elim (has_either (released o P) (c ∷ N) g w) [
          | inl l ↦ has_left P (e.header ∷ N) g (released-has o P g l)
          | inr q ↦ elim q [
            | inl z ↦ has_right P (e.header ∷ N) g (inl (sym at ∙ z))
            | inr z ↦
                has_right P (e.header ∷ N) g (inr z)
          ]
        ]))) a.1);
  }

  module _ (U : Memory) (x : IsReplaced T start (released o P) N (c ∷ []) U) where
    assoc : (Z : List Header) → released o (P ++ e.header ∷ []) ++ Z ≡ released o P ++ c ∷ Z
    assoc Z = ap (λ X. X ++ Z) (released-append o P (e.header ∷ []) ∙ ap (λ z. released o P ++ z ∷ []) (sym is))
        ∙ append_assoc (released o P) (c ∷ []) Z

    pub released_step : IsReleasing S start o L U (next e.header) (P ++ e.header ∷ []) N
    released_step =
        let X = x.spells in
        let last : Spells U (next c) N = (spells_end U start (released o P) c N X).2 in
        let done : released o (P ++ e.header ∷ []) ≡ released o P ++ c ∷ [] = released-append o P (e.header ∷ [])
        ∙ ap (λ z. released o P ++ z ∷ []) (sym is) in
        record {
          rest = (let F : ℕ → Type 0 = λ z. Spells U z N in subst F next_at last);
          spells = (let F : List Header → Type 0 = λ z. Spells U start z in subst F (sym (assoc N)) X);
          is = whole ∙ sym (append_assoc P (e.header ∷ []) N);
          differs = (let F : List Header → Type 0 = λ z. DiffersInHeaders S z U in subst F (sym done) (record {
            shape = shaped-then S T U r.differs.shape x.differs.shape;
            kept = λ p ne. x.differs.kept p (λ g k w small q. ne g k (has_right (released o P) (c ∷ []) g w) small (q
                ∙ place-shaped S T r.differs.shape _)) ∙ r.differs.kept p (λ g k w. ne g k (has_left (released o P) (c
                ∷ []) g w));
          }));
        }

pub nonempty_rest : (last : Bool) (N : List Header) → last ≡ false → last ≡ is_nil N → IsNonEmpty N
nonempty_rest last [] l e = absurd (let x : false ≡ true = sym l ∙ e in cc)
nonempty_rest last (c ∷ N) l e = tt

pub releasing_at : (S : Memory) (start : ℕ) (o : ℕ) (L : List Header) (T : Memory) (h k : ℕ) (P K : List Header) →
    k ≡ h → IsReleasing S start o L T h P K → IsReleasing S start o L T k P K
releasing_at S start o L T h k P K e r = rw e r

released_nonempty : (o : ℕ) (L : List Header) → IsNonEmpty L → IsNonEmpty (released o L)
released_nonempty o [] n = n
released_nonempty o (b ∷ L) n = tt

pub released_all : (S : Memory) (start : ℕ) (o : ℕ) (L : List Header) (T : Memory) (h : ℕ) (P N : List Header) →
    IsArena S start L → is_nil N ≡ true → IsReleasing S start o L T h P N → Becomes S start (released o L) T
released_all S start o L T h P (c ∷ N) a n r = absurd (let x : false ≡ true = n in cc)
released_all S start o L T h P [] a n r =
    let e : L ≡ P = r.is ∙ append_nil P in
    let G : List Header → Type 0 = λ X. DiffersInHeaders S (released o X) T in
    record {
      clear = clear_within S L _ (released-has o L) a.1;
      chain = (
        released_nonempty o L a.0.0,
        (let F : List Header → Type 0 = λ X. Spells T start X in
            subst F (append_nil (released o P) ∙ ap (released o) (sym e)) r.spells),
      );
      differs = subst G (sym e) r.differs;
    }
