-- The law of an allocation whose block is freed.
use Rattle.std.proofs.Common.{Bool, ◌≡◌, ℕ, ◌+◌, ◌<◌, ◌≤◌, true, false, not, ◌&&◌, ◌||◌, List, [], ◌∷◌, ◌++◌, ◌⊎◌, inl, inr, refl, sym, ◌∙◌, ap, ap₂, subst, arith, append_assoc, nat_eq}
use Rattle.std.proofs.lemmas.Bool.Decides.{nat_tests}
use Rattle.dm_space.specs.Memory.{Memory}
use Rattle.dm_blocks.specs.declared.header.Header.{Header}
use Rattle.dm_blocks.specs.Chain.{Becomes, HasHeader, IsArena, first_header, is_free, is_link, is_linked, link_header, next}
use Rattle.dm_blocks.proofs.Unique.{arena_unique}
use Rattle.dm_arena.specs.declared.fit.Strategy.{Strategy}
use Rattle.dm_arena.specs.Allocation.{Taking, with_cut}
use Rattle.dm_arena.specs.Blocks.{IsIn, cut_block, in_effect, join, merge}
use Rattle.dm_arena.specs.Owned.{BlockAt, freed, is_link_block}
use Rattle.dm_arena.specs.inner.Walks.{Fills}
use Rattle.dm_arena.proofs.Allocating.{fits_size}
use Rattle.dm_arena.proofs.Ends.{bool_cases, fills_above, fills_left, fills_of, fills_right, join_fills, split_unique}
use Rattle.dm_laws.specs.arena.Conservation.{AllocateThenFreeJoins}
use Rattle.dm_laws.proofs.arena.Within.{in_either, in_right}
use Rattle.dm_laws.proofs.arena.Joins.{and-left, and-right, free-owner, kept_in_join, not-both}
use Rattle.dm_laws.proofs.arena.Cuts.{IsCut, cut-is, taken}
use Rattle.dm_laws.proofs.arena.Again.{join-again, join-two}
use Rattle.dm_laws.proofs.arena.Conserved.{becomes_arena}

pub has_of : (L : List Header) (d : Header) → IsIn d L → HasHeader L d.segment
has_of [] d i = i
has_of (c ∷ L) d (inl q) = inl (ap (λ z. z.segment) (sym q))
has_of (c ∷ L) d (inr i) = inr (has_of L d i)

or_either : (x y : Bool) → x || y ≡ true → (x ≡ true) ⊎ (y ≡ true)
or_either true y e = inl refl
or_either false y e = inr e

or-right : (x y : Bool) → y ≡ true → x || y ≡ true
or-right true y e = refl
or-right false y e = e

pub same_of : (a n : ℕ) → nat_eq a n ≡ true → a ≡ n
same_of a n e = grind (arith, nat_tests)

-- a list is linked if it has a header at the link block's segment
pub linked_has : (L : List Header) → is_linked L ≡ true → (d : Header) × IsIn d L × (d.segment ≡ link_header)
linked_has [] e = absurd (let z : false ≡ true = e in cc)
linked_has (b ∷ L) e = elim (or_either (nat_eq b.segment link_header) (is_linked L) e) [
  | inl y ↦ (b, inl refl, same_of _ _ y)
  | inr n ↦ (let r = linked_has L n in (r.0, inr r.1, r.2))
]

linked_of : (L : List Header) (d : Header) → IsIn d L → d.segment ≡ link_header → is_linked L ≡ true
linked_of [] d i e = absurd i
linked_of (b ∷ L) d (inl q) e = ap (λ z. nat_eq z link_header || is_linked L) (ap (λ z. z.segment) (sym q) ∙ e)
linked_of (b ∷ L) d (inr i) e = or-right (nat_eq b.segment link_header) (is_linked L) (linked_of L d i e)

pub header-same : (b c : Header) → b.segment ≡ c.segment → b.owner ≡ c.owner → b.size ≡ c.size → b ≡ c
header-same b c e f g = λ i. record { segment = e i; owner = f i; size = g i }

false_of : (x : Bool) → not x ≡ true → x ≡ false
false_of true e = absurd (let z : false ≡ true = e in cc)
false_of false e = refl

-- a free block's header is not the link block's
pub unlinked_of : (up : Bool) (b : Header) → is_free up b ≡ true → is_link up b.segment ≡ false
unlinked_of up b f = false_of _ (and-left (not (is_link up b.segment)) (nat_eq b.owner 0) f)

-- nor is that of a block that can be freed
unlinked_after : (up : Bool) (segment s : ℕ) → s + 1 ≡ segment → is_link_block up segment ≡ false → is_link up s ≡ false
unlinked_after true segment s e o = grind (arith, nat_tests)
unlinked_after false segment s e o = refl

pub free_by : (up : Bool) (b : Header) → b.owner ≡ 0 → is_link up b.segment ≡ false → is_free up b ≡ true
free_by up b o l = ap₂ (λ x y. not x && nat_eq y 0) l o

-- the list that freeing one of its blocks leaves
freed-is : (up : Bool) (T : Memory) (segment : ℕ) (L P : List Header) (b : Header) (Q : List Header) →
    IsArena T first_header L → L ≡ P ++ b ∷ Q → b.segment + 1 ≡ segment → (f : BlockAt up T first_header segment) →
    f.before ++ freed f.block ∷ f.after ≡ P ++ freed b ∷ Q
freed-is up T segment L P b Q a e at f =
    let r = fills_of T first_header L a.0.1 in
    let F : List Header → Type 0 = λ X. Fills first_header X r.0 in
    let fat = f.at in
    let s = split_unique first_header r.0 P b Q f.before f.block f.after (subst F e r.1) (sym e
    ∙ arena_unique T first_header L f.list a f.arena ∙ f.is) (omega arith) in
    ap₂ (λ X Y. X ++ Y) (sym s.0) (ap₂ (λ z X. freed z ∷ X) (sym s.1) (sym s.2))

module _ (up : Bool) (S T U : Memory) (st : Strategy) (n owner segment : ℕ) (t : Taking up S first_header st n)
    (at : segment ≡ (taken st.fit n owner t.block).segment + 1) (x : Becomes S first_header (with_cut t owner) T)
    (f : BlockAt up T first_header segment) (y : Becomes T first_header (f.before ++ freed f.block ∷ f.after) U) where
  cut : IsCut n owner t.block (taken st.fit n owner t.block) (cut_block st.fit n owner t.block)
  cut = cut-is st.fit n owner t.block (fits_size up (in_effect up t.list st) n t.block t.fit.fit)

  block-free : is_free up t.block ≡ true
  block-free = and-left _ _ (and-left _ _ t.fit.fit)

  new-is : (new P Q : List Header) → IsArena U first_header new → with_cut t owner ≡ P ++ taken st.fit n owner t.block
      ∷ Q → new ≡ P ++ freed (taken st.fit n owner t.block) ∷ Q
  new-is new P Q a e =
      arena_unique U first_header new _ a (becomes_arena T U _ y)
      ∙ freed-is up T segment (with_cut t owner) P (taken st.fit n owner t.block) Q
      (becomes_arena S T (with_cut t owner) x) e (sym at) f

  -- the joined list has no header within the block that is taken, but its own
  none_within : (d : Header) → IsIn d t.list → is_free up d ≡ false → t.block.segment ≤ d.segment →
      d.segment < next t.block → ⊥
  none_within d i u low high =
      let F : List Header → Type 0 = λ X. IsIn d X in
      let r = join_fills up S first_header t.list t.arena.0.1 in
      let G : List Header → Type 0 = λ X. Fills r.1 X r.0 in
      let g : Fills r.1 (t.before ++ t.block ∷ t.after) r.0 = subst G t.joined r.2 in
      elim (in_either t.before (t.block ∷ t.after) d (subst F t.joined (kept_in_join up t.list d u i))) [
        | inl l ↦ (let z = fills_left r.1 r.0 t.before t.block t.after g d.segment (has_of t.before d l) in omega arith)
        | inr q ↦ elim q [
          | inl e ↦ not-both _ block-free (ap (is_free up) (sym e) ∙ u)
          | inr w ↦ (let z = fills_above (next t.block) r.0 t.after (fills_right r.1 r.0 t.before t.block t.after g)
              d.segment (has_of t.after d w) in omega arith)
        ]
      ]

  -- a header at the link block's segment makes the list linked, as the list was not
  rest_unlinked : (new : List Header) (r : Header) → IsIn r new → (up ≡ true → is_linked new ≡ is_linked t.list) →
      t.block.segment ≤ r.segment → r.segment < next t.block → is_link up r.segment ≡ false
  rest_unlinked new r i link low high = elim (bool_cases (is_link up r.segment)) [
    | inr e ↦ e
    | inl e ↦ (let at_link : r.segment ≡ link_header = same_of _ _ (and-right up (nat_eq r.segment link_header) e) in
        let on : up ≡ true = and-left up (nat_eq r.segment link_header) e in
        let d = linked_has t.list (sym (link on) ∙ linked_of new r i at_link) in
        let same : d.0.segment ≡ r.segment = d.2 ∙ sym at_link in
        let linked : is_link up d.0.segment ≡ true = ap (is_link up) same ∙ e in
        absurd (none_within d.0 d.1 (ap (λ z. not z && nat_eq d.0.owner 0) linked) (omega arith) (omega arith)))
  ]

  module _ (new : List Header) (a : IsArena U first_header new) (link : up ≡ true →
      is_linked new ≡ is_linked t.list) where
    joined_as : (P Q : List Header) → with_cut t owner ≡ P ++ taken st.fit n owner t.block ∷ Q →
        join up (P ++ freed (taken st.fit n owner t.block) ∷ Q) ≡ join up (t.before ++ t.block ∷ t.after) →
        join up new ≡ join up t.list
    joined_as P Q e j = ap (join up) (new-is new P Q a e) ∙ j ∙ ap (join up) (sym t.joined) ∙ join-again up t.list

    pub returned : join up new ≡ join up t.list
    returned =
        let b : Header = t.block in
        let N : Header = taken st.fit n owner b in
        let o : b.owner ≡ 0 = free-owner up b block-free in
        let with : List Header → List Header = λ C. t.before ++ (C ++ t.after) in
        elim cut.shape [
          | inl s ↦
              joined_as t.before t.after (ap with s.0)
              (ap (λ z. join up (t.before ++ z ∷ t.after)) (header-same (freed N) b s.1 (sym o) s.2))
          | inr q ↦ elim q [
            | inl s ↦ (let r : Header = s.0 in
                let e : with_cut t owner ≡ t.before ++ N ∷ r ∷ t.after = ap with s.1 in
                let size = s.5 in
                let low = s.3 in
                let F : List Header → Type 0 = λ X. IsIn r X in
                let there : IsIn r new = subst F (sym (new-is new t.before (r ∷ t.after) a e))
                (in_right t.before (freed N ∷ r ∷ t.after) r (inr (inl refl))) in
                let fn : is_free up (freed N) ≡ true = free_by up (freed N) refl (ap (is_link up) s.2
                ∙ unlinked_of up b block-free) in
                let fr : is_free up r ≡ true = free_by up r s.4 (rest_unlinked new r there link (omega arith)
                (omega arith)) in
                joined_as t.before (r ∷ t.after) e
                (join-two up t.before (freed N) r t.after fn fr ∙ ap (λ z. join up (t.before ++ z ∷ t.after))
                (header-same (merge (freed N) r) b s.2 (sym o) (omega arith))))
            | inr s ↦ (let r : Header = s.0 in
                let e : with_cut t owner ≡ (t.before ++ r ∷ []) ++ N ∷ t.after = ap with s.1
                ∙ sym (append_assoc t.before (r ∷ []) (N ∷ t.after)) in
                let size = s.5 in
                let fr : is_free up r ≡ true = free_by up r s.4 (ap (is_link up) s.2 ∙ unlinked_of up b block-free) in
                let fn : is_free up (freed N) ≡ true = free_by up (freed N) refl (unlinked_after up segment N.segment
                (sym at) f.other) in
                joined_as (t.before ++ r ∷ []) t.after e
                (ap (join up) (append_assoc t.before (r ∷ []) (freed N ∷ t.after))
                ∙ join-two up t.before r (freed N) t.after fr fn
                ∙ ap (λ z. join up (t.before ++ z ∷ t.after)) (header-same (merge r (freed N)) b s.2 (s.4
                ∙ sym o) (omega arith))))
          ]
        ]

pub allocate_then_free : AllocateThenFreeJoins
allocate_then_free up S T U st n owner segment old new x y a b link =
    let t : Taking up S first_header st n = x.0 in
    let e : old ≡ t.list = arena_unique S first_header old t.list a t.arena in
    returned up S T U st n owner segment t x.1 x.2 y.0 y.1 new b (λ on. link on ∙ ap is_linked e) ∙ ap (join up) (sym e)
