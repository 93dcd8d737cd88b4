-- Two blocks of one owner, allocated and freed.
use Rattle.std.proofs.Common.{Bool, ◌≡◌, ◌≢◌, ℕ, ◌<◌, ◌≤◌, true, false, not, ◌&&◌, ◌||◌, if◌then◌else◌, List, [], ◌∷◌, ◌++◌, ◌⊎◌, inl, inr, refl, sym, ◌∙◌, ap, ap₂, subst, arith, nat_eq}
use Rattle.std.proofs.lemmas.Bool.Decides.{nat_tests}
use Rattle.dm_space.specs.Memory.{Memory}
use Rattle.dm_blocks.specs.declared.header.Header.{Header}
use Rattle.dm_blocks.specs.Chain.{HasHeader, IsArena, first_header, is_free, is_link, is_linked, link_header, next}
use Rattle.dm_blocks.proofs.Chains.{has_either, has_left, has_right}
use Rattle.dm_blocks.proofs.Unique.{arena_unique, chain_unique}
use Rattle.dm_arena.specs.declared.fit.Strategy.{Strategy}
use Rattle.dm_arena.specs.Allocation.{with_cut}
use Rattle.dm_arena.specs.Blocks.{IsIn, cut_block, in_effect, join, merge}
use Rattle.dm_arena.specs.Owned.{ReleasesBoth, ReleasesOne, freed, released, released_block}
use Rattle.dm_arena.specs.Pair.{Pairing, Planned, with_pair}
use Rattle.dm_arena.specs.inner.Walks.{Fills}
use Rattle.dm_arena.proofs.Allocating.{changed_fills, fits_size}
use Rattle.dm_arena.proofs.Ends.{bool_cases, fills_above, fills_left, fills_right, join_fills}
use Rattle.dm_laws.specs.arena.Pairs.{OwnsNone, PairThenReleaseJoins}
use Rattle.dm_laws.proofs.arena.Within.{in_either, in_replaced}
use Rattle.dm_laws.proofs.arena.Joins.{and-left, and-right, free-owner, kept_in_join, not-both, owned_in_join}
use Rattle.dm_laws.proofs.arena.Cuts.{IsCut, cut-is, taken}
use Rattle.dm_laws.proofs.arena.Again.{join-again, join-two}
use Rattle.dm_laws.proofs.arena.Conserved.{becomes_arena}
use Rattle.dm_laws.proofs.arena.Returned.{free_by, has_of, header-same, linked_has, same_of}

-- freeing an owner's blocks
released-append : (o : ℕ) (P Q : List Header) → released o (P ++ Q) ≡ released o P ++ released o Q
released-append o [] Q = refl
released-append o (p ∷ P) Q = ap (λ X. released_block o p ∷ X) (released-append o P Q)

unequal : (a o : ℕ) → a ≢ o → nat_eq a o ≡ false
unequal a o h = grind (arith, nat_tests)

equal : (a o : ℕ) → a ≡ o → nat_eq a o ≡ true
equal a o h = grind (arith, nat_tests)

released-other : (o : ℕ) (b : Header) → b.owner ≢ o → released_block o b ≡ b
released-other o b h = ap (λ (t : Bool). record b { owner = if t then 0 else b.owner }) (unequal b.owner o h)

released-own : (o : ℕ) (b : Header) → b.owner ≡ o → released_block o b ≡ freed b
released-own o b h = ap (λ (t : Bool). record b { owner = if t then 0 else b.owner }) (equal b.owner o h)

released-none : (o : ℕ) (L : List Header) → OwnsNone o L → released o L ≡ L
released-none o [] h = refl
released-none o (b ∷ L) h = ap₂ (λ x X. x ∷ X) (released-other o b (h b (inl refl)))
    (released-none o L (λ c i. h c (inr i)))

released-has : (o : ℕ) (L : List Header) (g : ℕ) → HasHeader L g → HasHeader (released o L) g
released-has o [] g w = absurd w
released-has o (b ∷ L) g (inl e) = inl e
released-has o (b ∷ L) g (inr w) = inr (released-has o L g w)

or-right : (x y : Bool) → y ≡ true → x || y ≡ true
or-right true y e = refl
or-right false y e = e

linked_by : (L : List Header) → HasHeader L link_header → is_linked L ≡ true
linked_by [] w = absurd w
linked_by (b ∷ L) (inl e) = ap (λ z. nat_eq z link_header || is_linked L) e
linked_by (b ∷ L) (inr w) = or-right (nat_eq b.segment link_header) (is_linked L) (linked_by L w)

-- a used block is not within a free one
none_inside : (up : Bool) (g e : ℕ) (P : List Header) (b : Header) (Q : List Header) → Fills g (P ++ b ∷ Q) e →
    is_free up b ≡ true → (d : Header) → IsIn d (P ++ b ∷ Q) → is_free up d ≡ false → b.segment ≤ d.segment →
    d.segment < next b → ⊥
none_inside up g e P b Q f free d i u low high = elim (in_either P (b ∷ Q) d i) [
  | inl l ↦ (let z = fills_left g e P b Q f d.segment (has_of P d l) in omega arith)
  | inr q ↦ elim q [
    | inl s ↦ not-both _ free (ap (is_free up) (sym s) ∙ u)
    | inr w ↦ (let z = fills_above (next b) e Q (fills_right g e P b Q f) d.segment (has_of Q d w) in omega arith)
  ]
]

module _ (n o : ℕ) (b new : Header) (C : List Header) (c : IsCut n o b new C) where
  -- the parts of a cut block are within it, and the first of them begins where it does
  cut-range : (x : Header) → IsIn x C → (b.segment ≤ x.segment) × (x.segment < next b)
  cut-range x i =
      let F : List Header → Type 0 = λ X. IsIn x X in
      let size = c.sized in
      elim c.shape [
        | inl s ↦ elim (subst F s.0 i) [
          | inl q ↦ (let e = ap (λ z. z.segment) q in let y = s.1 in omega arith)
          | inr z ↦
              absurd z
        ]
        | inr s ↦ elim s [
          | inl s ↦ (let y = s.2 in let z = s.3 in let v = s.5 in elim (subst F s.1 i) [
            | inl q ↦
                (let e = ap (λ z. z.segment) q in omega arith)
            | inr r ↦ elim r [
              | inl q ↦
                  (let e = ap (λ z. z.segment) q in omega arith)
              | inr z ↦ absurd z
            ]
          ])
          | inr s ↦ (let y = s.2 in let z = s.3 in let v = s.5 in elim (subst F s.1 i) [
            | inl q ↦
                (let e = ap (λ z. z.segment) q in omega arith)
            | inr r ↦ elim r [
              | inl q ↦
                  (let e = ap (λ z. z.segment) q in omega arith)
              | inr z ↦ absurd z
            ]
          ])
        ]
      ]

  cut-head : HasHeader C b.segment
  cut-head =
      let F : List Header → Type 0 = λ X. HasHeader X b.segment in
      elim c.shape [
        | inl s ↦ subst F (sym s.0) (inl s.1)
        | inr s ↦ elim s [ inl s ↦ subst F (sym s.1) (inl s.2) | inr s ↦ subst F (sym s.1) (inl s.2) ]
      ]

  -- once freed, they are joined to the block
  cut-back : (up : Bool) (P Q : List Header) → o ≢ 0 → is_free up b ≡ true → ((x : Header) → IsIn x C →
      is_link up x.segment ≡ false) → join up (P ++ (released o C ++ Q)) ≡ join up (P ++ b ∷ Q)
  cut-back up P Q nz free unlinked =
      let F : Header → List Header → Type 0 = λ x X. IsIn x X in
      let with : List Header → List Header = λ X. join up (P ++ (X ++ Q)) in
      let own : b.owner ≡ 0 = free-owner up b free in
      elim c.shape [
        | inl s ↦ ap (λ X. join up (P ++ (released o X ++ Q))) s.0
            ∙ ap (λ x. join up (P ++ x ∷ Q)) (released-own o new c.owned
            ∙ header-same (freed new) b s.1 (sym own) (c.sized ∙ s.2))
        | inr q ↦ elim q [
          | inl s ↦ (let r : Header = s.0 in
              let size = s.5 in
              let n_is = c.sized in
              let r0 = s.4 in
              let fn : is_free up (freed new) ≡ true =
              free_by up (freed new) refl (unlinked new (subst (F new) (sym s.1) (inl refl))) in
              let fr : is_free up r ≡ true = free_by up r s.4 (unlinked r (subst (F r) (sym s.1) (inr (inl refl)))) in
              ap (λ X. join up (P ++ (released o X ++ Q))) s.1
              ∙ ap₂ (λ x y. join up (P ++ x ∷ y ∷ Q)) (released-own o new c.owned) (released-other o r (λ e. nz (sym e
              ∙ r0)))
              ∙ join-two up P (freed new) r Q fn fr ∙ ap (λ z. join up (P ++ z ∷ Q))
              (header-same (merge (freed new) r) b s.2 (sym own) (omega arith)))
          | inr s ↦ (let r : Header = s.0 in
              let size = s.5 in
              let n_is = c.sized in
              let r0 = s.4 in
              let fn : is_free up (freed new) ≡ true =
              free_by up (freed new) refl (unlinked new (subst (F new) (sym s.1) (inr (inl refl)))) in
              let fr : is_free up r ≡ true = free_by up r s.4 (unlinked r (subst (F r) (sym s.1) (inl refl))) in
              ap (λ X. join up (P ++ (released o X ++ Q))) s.1
              ∙ ap₂ (λ x y. join up (P ++ x ∷ y ∷ Q)) (released-other o r (λ e. nz (sym e ∙ r0)))
              (released-own o new c.owned)
              ∙ join-two up P r (freed new) Q fr fn ∙ ap (λ z. join up (P ++ z ∷ Q))
              (header-same (merge r (freed new)) b s.2 (r0 ∙ sym own) (omega arith)))
        ]
      ]

-- a list in which a free block is cut, with the owner's blocks freed
released-cut : (up : Bool) (n o : ℕ) (P : List Header) (b new : Header) (C Q : List Header) → IsCut n o b new C →
    o ≢ 0 → is_free up b ≡ true → ((x : Header) → IsIn x C → is_link up x.segment ≡ false) →
    join up (released o (P ++ (C ++ Q))) ≡ join up (released o (P ++ b ∷ Q))
released-cut up n o P b new C Q c nz free unlinked =
    let own : b.owner ≢ o = λ e. nz (sym e ∙ free-owner up b free) in
    ap (join up) (released-append o P (C ++ Q) ∙ ap (λ X. released o P ++ X) (released-append o C Q))
    ∙ cut-back n o b new C c up (released o P) (released o Q) nz free unlinked
    ∙ ap (λ x. join up (released o P ++ x ∷ released o Q)) (sym (released-other o b own))
    ∙ ap (join up) (sym (released-append o P (b ∷ Q)))

module _ (up : Bool) (S : Memory) (st : Strategy) (environment least most o size : ℕ)
    (p : Pairing up S first_header st environment least most o size) (old new : List Header) (olds : old
    ≡ p.first.list) (news : new ≡ released o (with_pair p)) (none : OwnsNone o old) (link : up ≡ true →
    is_linked new ≡ is_linked old) where
  nonzero : o ≢ 0
  nonzero e = (let x = p.owner_is in omega arith)

  first-cut : IsCut environment o p.first.block (taken st.fit environment o p.first.block)
      (cut_block st.fit environment o p.first.block)
  first-cut = cut-is st.fit environment o p.first.block (fits_size up (in_effect up p.first.list st) environment
      p.first.block p.first.fit.fit)

  second-cut : IsCut size o p.block (taken st.fit size o p.block) (cut_block st.fit size o p.block)
  second-cut = cut-is st.fit size o p.block (fits_size up (in_effect up (with_cut p.first o) st) size p.block p.fit.fit)

  first-free : is_free up p.first.block ≡ true
  first-free = and-left _ _ (and-left _ _ p.first.fit.fit)

  second-free : is_free up p.block ≡ true
  second-free = and-left _ _ (and-left _ _ p.fit.fit)

  -- a header of the list with both blocks is the link block's only if the list had that before
  unlinked : (g : ℕ) → HasHeader (with_pair p) g → ((d : Header) → IsIn d p.first.list → is_free up d ≡ false →
      d.segment ≡ g → ⊥) → is_link up g ≡ false
  unlinked g w not_there = elim (bool_cases (is_link up g)) [
    | inr e ↦ e
    | inl e ↦ (let at : g ≡ link_header = same_of _ _ (and-right up (nat_eq g link_header) e) in
        let on : up ≡ true = and-left up (nat_eq g link_header) e in
        let F : List Header → Type 0 = λ X. HasHeader X link_header in
        let G : ℕ → Type 0 = λ z. HasHeader (with_pair p) z in
        let there : HasHeader new link_header = subst F (sym news) (released-has o (with_pair p) link_header
        (subst G at w)) in
        let d = linked_has old (sym (link on) ∙ linked_by new there) in
        let same : d.0.segment ≡ g = d.2 ∙ sym at in
        let linked : is_link up d.0.segment ≡ true = ap (is_link up) same ∙ e in
        let I : List Header → Type 0 = λ X. IsIn d.0 X in
        absurd (not_there d.0 (subst I olds d.1) (ap (λ z. not z && nat_eq d.0.owner 0) linked) same))
  ]

  -- used blocks are in the joined list, and in the list with the first block
  in_joined : (d : Header) → IsIn d p.first.list → is_free up d ≡ false → IsIn d (p.first.before ++ p.first.block
      ∷ p.first.after)
  in_joined d i u = let F : List Header → Type 0 = λ X. IsIn d X in
      subst F p.first.joined (kept_in_join up p.first.list d u i)

  in_split : (d : Header) → IsIn d p.first.list → is_free up d ≡ false → IsIn d (p.before ++ p.block ∷ p.after)
  in_split d i u =
      let F : List Header → Type 0 = λ X. IsIn d X in
      subst F p.split (in_replaced p.first.before (cut_block st.fit environment o p.first.block) (p.first.block
      ∷ []) p.first.after d
      (λ j. elim j [ inl q ↦ absurd (not-both _ first-free (ap (is_free up) (sym q) ∙ u)) | inr z ↦ absurd z ])
      (in_joined d i u))

  -- headers of the list with the first block are headers of the list with both
  has_both : (g : ℕ) → HasHeader (p.before ++ p.block ∷ p.after) g → HasHeader (with_pair p) g
  has_both g w =
      let C : List Header = cut_block st.fit size o p.block in
      elim (has_either p.before (p.block ∷ p.after) g w) [
        | inl l ↦ has_left p.before (C ++ p.after) g l
        | inr r ↦ elim r [
          | inl e ↦ (let F : ℕ → Type 0 = λ z. HasHeader C z in has_right p.before (C
              ++ p.after) g (has_left C p.after g (subst F e (cut-head size o p.block _ C second-cut))))
          | inr q ↦ has_right p.before (C ++ p.after) g (has_right C p.after g q)
        ]
      ]

  first-unlinked : (x : Header) → IsIn x (cut_block st.fit environment o p.first.block) → is_link up x.segment ≡ false
  first-unlinked x i =
      let C : List Header = cut_block st.fit environment o p.first.block in
      let range = cut-range environment o p.first.block _ C first-cut x i in
      let F : List Header → Type 0 = λ X. HasHeader X x.segment in
      let r = join_fills up S first_header p.first.list p.first.arena.0.1 in
      let G : List Header → Type 0 = λ X. Fills r.1 X r.0 in
      unlinked x.segment (has_both x.segment (subst F p.split (has_right p.first.before (C
      ++ p.first.after) x.segment (has_left C p.first.after x.segment (has_of C x i)))))
      (λ d j u e. none_inside up r.1 r.0 p.first.before p.first.block p.first.after (subst G p.first.joined r.2)
      first-free d (in_joined d j u) u (let y = range.0 in omega arith) (let y = range.1 in omega arith))

  second-unlinked : (x : Header) → IsIn x (cut_block st.fit size o p.block) → is_link up x.segment ≡ false
  second-unlinked x i =
      let C : List Header = cut_block st.fit size o p.block in
      let range = cut-range size o p.block _ C second-cut x i in
      let r = changed_fills up S first_header st environment o p.first in
      let G : List Header → Type 0 = λ X. Fills r.0 X r.1 in
      unlinked x.segment (has_right p.before (C ++ p.after) x.segment (has_left C p.after x.segment (has_of C x i)))
      (λ d j u e. none_inside up r.0 r.1 p.before p.block p.after (subst G p.split r.2) second-free d (in_split d j u) u
      (let y = range.0 in omega arith) (let y = range.1 in omega arith))

  none_joined : OwnsNone o (join up p.first.list)
  none_joined b i e =
      let F : List Header → Type 0 = λ X. IsIn b X in
      none b (subst F (sym olds) (owned_in_join up p.first.list b (λ z. nonzero (sym e ∙ z)) i)) e

  pub back : join up new ≡ join up old
  back =
      ap (join up) news
      ∙ released-cut up size o p.before p.block _ (cut_block st.fit size o p.block) p.after second-cut nonzero
      second-free second-unlinked
      ∙ ap (λ X. join up (released o X)) (sym p.split)
      ∙ released-cut up environment o p.first.before p.first.block _ (cut_block st.fit environment o p.first.block)
      p.first.after first-cut nonzero first-free first-unlinked
      ∙ ap (λ X. join up (released o X)) (sym p.first.joined)
      ∙ ap (join up) (released-none o (join up p.first.list) none_joined)
      ∙ join-again up p.first.list ∙ ap (join up) (sym olds)

-- what is spelled once the owner's blocks are freed
left-is : (upper : Bool) (E U : Memory) (o : ℕ) (taken new : List Header) → IsArena E first_header taken →
    ReleasesOne upper E o U ⊎ ReleasesBoth upper E o U → IsArena U first_header new → new ≡ released o taken
left-is upper E U o taken new e (inl r) x = chain_unique U first_header new _ x.0 r.becomes.chain
    ∙ ap (released o) (arena_unique E first_header r.list taken r.arena e)
left-is upper E U o taken new e (inr r) x = chain_unique U first_header new _ x.0 r.first_chain
    ∙ ap (released o) (arena_unique E first_header r.first taken r.arena e)

pub pair_then_release : PairThenReleaseJoins
pair_then_release up S T E U st environment least most placed old taken new p a t e r x none link =
    let pair : Planned = p.0 in
    let pairing = p.1.pairing in
    let o : placed.program ≡ pair.program = ap (λ z. z.program) p.2 in
    let same : taken ≡ with_pair pairing = arena_unique T first_header taken (with_pair pairing) t
    (becomes_arena S T (with_pair pairing) p.3) in
    let R : ℕ → Type 0 = λ z. ReleasesOne up E z U ⊎ ReleasesBoth up E z U in
    let N : ℕ → Type 0 = λ z. OwnsNone z old in
    back up S st environment least most pair.program pair.size pairing old new
    (arena_unique S first_header old pairing.first.list a pairing.first.arena)
    (left-is up E U pair.program taken new e (subst R o r) x ∙ ap (released pair.program) same)
    (subst N o none) link
