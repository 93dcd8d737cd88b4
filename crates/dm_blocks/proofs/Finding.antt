-- Finding a block by its segment, or by its end.
use Rattle.std.proofs.Common.{◌≡◌, ◌≢◌, ℕ, ◌+◌, Bool, true, false, ◌||◌, nat_eq, Option, Some, None, List, [], ◌∷◌, ◌++◌, inl, inr, refl, sym, ◌∙◌, ap, subst, arith, append_assoc}
use Rattle.std.specs.Prelude.{is_some}
use Rattle.std.proofs.lemmas.Bool.Decides.{nat_tests}
use Rattle.dm_space.specs.Memory.{Memory}
use Rattle.dm_blocks.specs.declared.header.Header.{Header}
use Rattle.dm_blocks.specs.declared.header.ListedHeader.{ListedHeader}
use Rattle.dm_blocks.specs.Chain.{Spells, NoBlockAt, is_linked, next}
use Rattle.dm_blocks.specs.Reading.{is_nil, IsFront, FindsBlock, IsFoundAt, IsEndingAt, IsSpelledFrom, NoEndAt}
use Rattle.dm_blocks.specs.inner.Reading.{IsFinding, IsSeeking}
use Rattle.dm_blocks.proofs.Chains.{has_either}

module _ (S : Memory) (L : List Header) (segment h : ℕ) (e : ListedHeader) (there : e.header.segment
    ≡ h) (P K : List Header) (f : IsFinding S L segment h P K) (N : List Header) (g : IsFront S K e N) where
  all : L ≡ P ++ e.header ∷ N
  all = f.is ∙ ap (λ X. P ++ X) g.is

  pub found_block : h + 1 ≡ segment → (P' : List Header) × (Q : List Header) × IsFoundAt S L segment e P' Q
  found_block at = (P, N, record { is = all; at = omega arith; last = g.last; rest = g.rest })

  none_more : (h + 1 ≡ segment → ⊥) → NoBlockAt (P ++ e.header ∷ []) segment
  none_more ne x w eq = elim (has_either P (e.header ∷ []) x w) [
    | inl l ↦ f.none x l eq
    | inr r ↦ elim r [ inl q ↦ ne (omega arith) | inr z ↦ absurd z ]
  ]

  pub found_none : (h + 1 ≡ segment → ⊥) → e.last ≡ true → NoBlockAt L segment
  found_none ne l =
      let n : N ≡ [] = nil_of N (sym g.last ∙ l) in
      let F : List Header → Type 0 = λ X. NoBlockAt X segment in
      subst F (sym (all ∙ ap (λ X. P ++ e.header ∷ X) n)) (none_more ne)
    where
      nil_of : (X : List Header) → is_nil X ≡ true → X ≡ []
      nil_of [] z = refl
      nil_of (x ∷ X) z = absurd (let y : false ≡ true = z in cc)

pub finding_more : (S : Memory) (L : List Header) (segment h : ℕ) (e : ListedHeader) → e.header.segment ≡ h →
    (P K : List Header) → IsFinding S L segment h P K → (N : List Header) → IsFront S K e N → (h + 1 ≡ segment → ⊥) →
    e.last ≡ false → (t : ℕ) → t ≡ next e.header → (P' : List Header) × (K' : List Header) ×
    IsFinding S L segment t P' K'
finding_more S L segment h e there P K f [] g ne l t ist = absurd (let x : false ≡ true = sym l ∙ g.last in cc)
finding_more S L segment h e there P K f (c ∷ N) g ne l t ist = (
  P ++ e.header ∷ [],
  c ∷ N,
  record {
    spelled = record {
      nonempty = tt;
      spells = (let F : ℕ → Type 0 = λ x. Spells S x (c ∷ N) in
          subst F (sym ist) g.rest);
    };
    is = f.is ∙ ap (λ X. P ++ X) g.is ∙ sym (append_assoc P (e.header ∷ []) (c ∷ N));
    none = none_more S L segment h e there P K f (c ∷ N) g ne;
  },
)

-- by the end
no-end-more : (P : List Header) (b : Header) (segment : ℕ) → NoEndAt P segment → next b ≢ segment →
    NoEndAt (P ++ b ∷ []) segment
no-end-more [] b segment n ne = (ne, tt)
no-end-more (p ∷ P) b segment n ne = (n.0, no-end-more P b segment n.1 ne)

nil_of : (X : List Header) → is_nil X ≡ true → X ≡ []
nil_of [] z = refl
nil_of (x ∷ X) z = absurd (let y : false ≡ true = z in cc)

module _ (S : Memory) (L : List Header) (segment h : ℕ) (e : ListedHeader) (P K : List Header)
    (f : IsSeeking S L segment h P K) (N : List Header) (g : IsFront S K e N) where
  whole : L ≡ P ++ e.header ∷ N
  whole = f.is ∙ ap (λ X. P ++ X) g.is

  pub found_end : next e.header ≡ segment → (P' : List Header) × (Q : List Header) × IsEndingAt S L segment e P' Q
  found_end at = (P, N, record { is = whole; at = at; last = g.last; rest = g.rest })

  pub no_end : next e.header ≢ segment → e.last ≡ true → NoEndAt L segment
  no_end ne l =
      let F : List Header → Type 0 = λ X. NoEndAt X segment in
      subst F (sym (whole ∙ ap (λ X. P ++ e.header ∷ X) (nil_of N (sym g.last ∙ l))))
      (no-end-more P e.header segment f.none ne)

pub seeking_more : (S : Memory) (L : List Header) (segment h : ℕ) (e : ListedHeader) (P K : List Header) →
    IsSeeking S L segment h P K → (N : List Header) → IsFront S K e N → next e.header ≢ segment → e.last ≡ false →
    (t : ℕ) → t ≡ next e.header → (P' : List Header) × (K' : List Header) × IsSeeking S L segment t P' K'
seeking_more S L segment h e P K f [] g ne l t ist = absurd (let x : false ≡ true = sym l ∙ g.last in cc)
seeking_more S L segment h e P K f (c ∷ N) g ne l t ist = (
  P ++ e.header ∷ [],
  c ∷ N,
  record {
    spelled = record {
      nonempty = tt;
      spells = (let F : ℕ → Type 0 = λ x. Spells S x (c ∷ N) in
          subst F (sym ist) g.rest);
    };
    is = f.is ∙ ap (λ X. P ++ X) g.is ∙ sym (append_assoc P (e.header ∷ []) (c ∷ N));
    none = no-end-more P e.header segment f.none ne;
  },
)

-- the link block
linked-in : (P : List Header) (b : Header) (Q : List Header) → b.segment ≡ 0x9FFF → is_linked (P ++ b ∷ Q) ≡ true
linked-in [] b Q at = (let t : nat_eq b.segment 0x9FFF ≡ true = grind (arith, nat_tests) in rw t refl)
linked-in (p ∷ P) b Q at = either (nat_eq p.segment 0x9FFF) (is_linked (P ++ b ∷ Q)) (linked-in P b Q at)
  where
    either : (x y : Bool) → y ≡ true → x || y ≡ true
    either true y e = refl
    either false y e = e

linked-none : (L : List Header) → NoBlockAt L 0xA000 → is_linked L ≡ false
linked-none [] n = refl
linked-none (b ∷ L) n =
    let ne : b.segment + 1 ≢ 0xA000 = n b.segment (inl refl) in
    let t : nat_eq b.segment 0x9FFF ≡ false = grind (arith, nat_tests) in
    let r = linked-none L (λ h w. n h (inr w)) in
    rw t r

pub linked-found : (S : Memory) (L : List Header) (o : Option ListedHeader) → FindsBlock S 0x100 0xA000 o →
    IsSpelledFrom S 0x100 L → is_some o ≡ is_linked L
linked-found S L None f s = sym (linked-none L (f L s))
linked-found S L (Some e) f s =
    let r = f L s in
    let x = r.2 in
    let at : e.header.segment ≡ 0x9FFF = (let y = x.at in omega arith) in
    sym (ap is_linked x.is ∙ linked-in r.0 e.header r.1 at)
