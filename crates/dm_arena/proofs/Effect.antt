-- The strategy that is in effect, as a block is taken.
use Rattle.std.proofs.Common.{◌≡◌, ℕ, Bool, true, false, ◌&&◌, ◌||◌, nat_eq, List, [], ◌∷◌, ◌++◌, ◌⊎◌, inl, inr, refl, sym, ◌∙◌, ap, subst, arith, Some, None}
use Rattle.std.specs.Prelude.{if◌then◌else◌, option_to_list}
use Rattle.std.proofs.lemmas.Bool.Decides.{nat_tests}
use Rattle.dm_space.specs.Memory.{Memory}
use Rattle.dm_blocks.specs.declared.header.Header.{Header}
use Rattle.dm_blocks.specs.Chain.{HasHeader, IsArena, is_free, is_linked}
use Rattle.dm_blocks.proofs.Chains.{has_either, has_left, has_right}
use Rattle.dm_arena.specs.declared.cut.Cut.{Cut}
use Rattle.dm_arena.specs.declared.fit.Fit.{Fit}
use Rattle.dm_arena.specs.declared.fit.Fit.TheVariants.{First, Best, Last}
use Rattle.dm_arena.specs.declared.fit.Area.TheVariants.{All}
use Rattle.dm_arena.specs.declared.fit.Strategy.{Strategy}
use Rattle.dm_arena.specs.Allocation.{Taking, with_cut}
use Rattle.dm_arena.specs.Blocks.{cut_block, cut_high, cut_low, in_effect, join, join_after, merge}
use Rattle.dm_arena.specs.inner.Blocks.{cut_list}
use Rattle.dm_arena.specs.inner.Walks.{pick}
use Rattle.dm_arena.proofs.Allocating.{changed_either, changed_has, join-within, taking_of}
use Rattle.dm_arena.proofs.Ends.{bool_cases, join_after-cond}
use Rattle.dm_arena.proofs.Parting.{at-linked, linked-at}

-- lists that both have the link block's header, or both don't, are linked alike
linked-same : (X Y : List Header) → (HasHeader X 0x9FFF → HasHeader Y 0x9FFF) →
    (HasHeader Y 0x9FFF → HasHeader X 0x9FFF) → is_linked X ≡ is_linked Y
linked-same X Y f g = by (is_linked X) (is_linked Y) (λ l. at-linked Y (f (linked-at X l)))
    (λ l. at-linked X (g (linked-at Y l)))
  where
    by : (x y : Bool) → (x ≡ true → y ≡ true) → (y ≡ true → x ≡ true) → x ≡ y
    by true y f g = sym (f refl)
    by false true f g = g refl
    by false false f g = refl

-- the owner of a block says nothing of the link
low-linked : (n o p : ℕ) (b : Header) (Q : List Header) (r : Bool) → nat_eq b.size n ≡ r →
    is_linked (cut_low n o b ++ Q) ≡ is_linked (cut_low n p b ++ Q)
low-linked n o p b Q true e = rw e refl
low-linked n o p b Q false e = rw e refl

high-linked : (n o p : ℕ) (b : Header) (Q : List Header) (r : Bool) → nat_eq b.size n ≡ r →
    is_linked (cut_high n o b ++ Q) ≡ is_linked (cut_high n p b ++ Q)
high-linked n o p b Q true e = rw e refl
high-linked n o p b Q false e = rw e refl

cut-linked : (f : Fit) (n o p : ℕ) (b : Header) (Q : List Header) → is_linked (cut_block f n o b ++ Q)
    ≡ is_linked (cut_block f n p b ++ Q)
cut-linked First n o p b Q = low-linked n o p b Q _ refl
cut-linked Best n o p b Q = low-linked n o p b Q _ refl
cut-linked Last n o p b Q = high-linked n o p b Q _ refl

behind-linked : (P X Y : List Header) → is_linked X ≡ is_linked Y → is_linked (P ++ X) ≡ is_linked (P ++ Y)
behind-linked [] X Y e = e
behind-linked (p ∷ P) X Y e = ap (λ x. nat_eq p.segment 0x9FFF || x) (behind-linked P X Y e)

-- the link block is not joined with another
link-taken : (c : Header) → c.segment ≡ 0x9FFF → is_free true c ≡ false
link-taken c e = (let t : nat_eq c.segment 0x9FFF ≡ true = grind (arith, nat_tests) in rw t refl)

never-both : (x y : Bool) → y ≡ false → x && y ≡ true → ⊥
never-both true y f e = absurd (let z : true ≡ false = sym e ∙ f in cc)
never-both false y f e = absurd (let z : false ≡ true = e in cc)

join_after-link : (b : Header) (L : List Header) → (b.segment ≡ 0x9FFF) ⊎ HasHeader L 0x9FFF →
    HasHeader (join_after true b L) 0x9FFF
join_after-link b [] w = w
join_after-link b (c ∷ L) w =
    let P : List Header → Type 0 = λ M. HasHeader M 0x9FFF in
    elim (bool_cases (is_free true b && is_free true c)) [
      | inl e ↦ subst P (sym (join_after-cond true b c L true e)) (join_after-link (merge b c) L (elim w [
        | inl s ↦ inl s
        | inr v ↦ elim v [
          | inl s ↦ absurd (never-both (is_free true b) (is_free true c) (link-taken c s) e)
          | inr r ↦
              inr r
        ]
      ]))
      | inr e ↦ subst P (sym (join_after-cond true b c L false e)) (elim w [
        | inl s ↦ inl s
        | inr v ↦
            inr (join_after-link c L v)
      ])
    ]

join-link : (L : List Header) → HasHeader L 0x9FFF → HasHeader (join true L) 0x9FFF
join-link [] w = w
join-link (b ∷ L) w = join_after-link b L w

-- with another list that is linked alike, the strategy is in effect alike
effect-linked : (up : Bool) (st : Strategy) (X Y : List Header) → is_linked X ≡ is_linked Y →
    in_effect up X st ≡ in_effect up Y st
effect-linked up st X Y e = ap (λ (z : Bool). record st { area = if up && z then st.area else All }) e

-- whoever owns the block that is taken, the same strategy is in effect
pub effect-owner : (up : Bool) (S : Memory) (start : ℕ) (st : Strategy) (n : ℕ) (t : Taking up S start st n) (o p : ℕ) →
    in_effect up (with_cut t o) st ≡ in_effect up (with_cut t p) st
effect-owner up S start st n t o p = effect-linked up st (with_cut t o) (with_cut t p)
    (behind-linked t.before (cut_block st.fit n o t.block ++ t.after) (cut_block st.fit n p t.block
    ++ t.after) (cut-linked st.fit n o p t.block t.after))

-- a list with the new header of a cut beside it
beside-linked : (S : Memory) (start : ℕ) (st : Strategy) (n o : ℕ) (L : List Header) (b : Header)
    (a : IsArena S start L) (e : pick true (in_effect true L st) n None (join true L) ≡ Some b) (c : Cut) →
    cut_list c ≡ cut_block st.fit n o b → is_linked (option_to_list c.second ++ L)
    ≡ is_linked (with_cut (taking_of true S start st n L b a e) o)
beside-linked S start st n o L b a e c is =
    linked-same (option_to_list c.second ++ L) _ (λ w. changed_has true S start st n o L b a e c is 0x9FFF (forth w))
    (λ w. back (changed_either true S start st n o L b a e c is 0x9FFF w))
  where
    forth : HasHeader (option_to_list c.second ++ L) 0x9FFF → HasHeader (option_to_list c.second ++ join true L) 0x9FFF
    forth w = elim (has_either (option_to_list c.second) L 0x9FFF w) [
      | inl l ↦ has_left (option_to_list c.second) (join true L) 0x9FFF l
      | inr r ↦ has_right (option_to_list c.second) (join true L) 0x9FFF (join-link L r)
    ]

    back : HasHeader (option_to_list c.second ++ join true L) 0x9FFF → HasHeader (option_to_list c.second ++ L) 0x9FFF
    back w = elim (has_either (option_to_list c.second) (join true L) 0x9FFF w) [
      | inl l ↦ has_left (option_to_list c.second) L 0x9FFF l
      | inr r ↦ has_right (option_to_list c.second) L 0x9FFF (join-within true L 0x9FFF r)
    ]

effect-beside : (up : Bool) (S : Memory) (start : ℕ) (st : Strategy) (n o : ℕ) (L : List Header) (b : Header)
    (a : IsArena S start L) (e : pick up (in_effect up L st) n None (join up L) ≡ Some b) (c : Cut) →
    cut_list c ≡ cut_block st.fit n o b → in_effect up (option_to_list c.second ++ L) st
    ≡ in_effect up (with_cut (taking_of up S start st n L b a e) o) st
effect-beside true S start st n o L b a e c is = effect-linked true st (option_to_list c.second
    ++ L) (with_cut (taking_of true S start st n L b a e) o) (beside-linked S start st n o L b a e c is)
effect-beside false S start st n o L b a e c is = refl

-- the strategy E that is in effect with the new header of a cut is that of the list in which the block is taken
pub effect_taken : (up : Bool) (S : Memory) (start : ℕ) (st : Strategy) (n o : ℕ) (L : List Header) (b : Header)
    (a : IsArena S start L) (e : pick up (in_effect up L st) n None (join up L) ≡ Some b) (c : Cut) →
    cut_list c ≡ cut_block st.fit n o b → (E : Strategy) → E ≡ in_effect up (option_to_list c.second ++ L) st →
    (p : ℕ) → E ≡ in_effect up (with_cut (taking_of up S start st n L b a e) p) st
effect_taken up S start st n o L b a e c is E E-is p = E-is ∙ effect-beside up S start st n o L b a e c is
    ∙ effect-owner up S start st n (taking_of up S start st n L b a e) o p
