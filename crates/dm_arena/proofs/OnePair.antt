-- A pair of blocks is planned in one way.
use Rattle.std.proofs.Common.{Bool, ◌≡◌, ℕ, ◌+◌, ◌<◌, IsTrue, min, List, ◌∷◌, ◌++◌, inl, inr, refl, sym, ◌∙◌, ap, ap₂, subst, arith, Option, Some, None, Result, Ok, Err}
use Rattle.dm_space.specs.Memory.{Memory}
use Rattle.dm_blocks.specs.declared.header.Header.{Header}
use Rattle.dm_arena.specs.declared.refusal.ArenaRefusal.{ArenaRefusal}
use Rattle.dm_arena.specs.declared.refusal.ArenaRefusal.TheVariants.{Destroyed, Short, NoBlock}
use Rattle.dm_arena.specs.declared.fit.Spoken.{Spoken}
use Rattle.dm_arena.specs.declared.fit.Strategy.{Strategy}
use Rattle.dm_blocks.specs.Chain.{first_header, IsArena, IsClear, Becomes}
use Rattle.dm_arena.specs.Blocks.{in_effect, join, largest, fits, IsFit, IsIn, cut_block, taken_segment}
use Rattle.dm_arena.specs.inner.Walks.{pick, left_of, rest_of, Fills}
use Rattle.dm_arena.specs.Allocation.{Taking, with_cut}
use Rattle.dm_arena.specs.Pair.{Pairing, Planned, with_pair, IsPair, Placed, placed_of, Pairs, PairRefused}
use Rattle.dm_arena.proofs.Allocating.{taking_of, in_middle, changed_fills}
use Rattle.dm_blocks.proofs.Unique.{arena_unique, becomes_unique}
use Rattle.dm_arena.proofs.Ends.{split_unique}
use Rattle.dm_arena.proofs.Fitting.{prefers-same}
use Rattle.dm_arena.proofs.OneAnswer.{changed-same, taken_segment-same}
use Rattle.dm_arena.proofs.Effect.{effect-owner}
use Rattle.dm_arena.proofs.Pairs.{size_same, second_fit, none_second, none_first}

-- where the second block is and how large
record IsSecond (o m v w : ℕ) : Type 0 where
  owner : o ≡ v
  size : m ≡ w

module _ (up : Bool) where
  module _ (S : Memory) (start : ℕ) (st : Strategy) (n least most : ℕ) where
    -- with the same first block, the search finds the second one of each pairing
    module _ (L : List Header) (b : Header) (a : IsArena S start L) (e : pick up (in_effect up L st) n None (join up L)
        ≡ Some b) where
      abbrev first : Taking up S start st n
      first = taking_of up S start st n L b a e

      abbrev spoken : Spoken
      spoken = record { segment = b.segment; rest = rest_of st.fit n b }

      -- the strategy that is in effect for the second block, whoever owns the first
      abbrev effect : Strategy
      effect = in_effect up (with_cut first 0) st

      effect-is : (o : ℕ) → effect ≡ in_effect up (with_cut first o) st
      effect-is o = effect-owner up S start st n first 0 o

      found_second : (m : ℕ) (w : Header) → m ≡ min most (largest up effect (left_of (Some spoken) (join up L))) →
          pick up effect m None (left_of (Some spoken) (join up L)) ≡ Some w →
          (o k : ℕ) (p : Pairing up S start st n least most o k) → IsSecond o k (taken_segment st.fit m w + 1) m
      found_second m w is chosen o k p =
          let size : k ≡ m = size_same up S start st n L b a e spoken refl refl effect effect-is least most
          (largest up effect (left_of (Some spoken) (join up L))) m refl is o k p in
          let h : 0 < o = (let y = p.owner_is in omega arith) in
          let f = second_fit up S start st n L b a e spoken refl refl effect m w chosen o h in
          let same : with_cut p.first o ≡ with_cut first o = changed-same up S start st n p.first first o in
          let lists : p.before ++ p.block ∷ p.after ≡ f.1.0 ++ w ∷ f.1.1 = sym p.split ∙ same ∙ f.1.2 in
          let fills = changed_fills up S start st n o p.first in
          let F : List Header → Type 0 = λ X. Fills fills.0 X fills.1 in
          let I : List Header → Type 0 = λ X. IsIn w X in
          let J : List Header → Type 0 = λ X. IsIn p.block X in
          let P : Strategy → Type 0 = λ x. IsFit up x k (with_cut p.first o) p.block in
          let fit : IsFit up effect k (with_cut p.first o) p.block = subst P (ap (λ X. in_effect up X st) same
          ∙ sym (effect-is o)) p.fit in
          let G : ℕ → Type 0 = λ x. IsTrue (fits up effect x w) in
          let H : ℕ → Type 0 = λ x. IsTrue (fits up effect x p.block) in
          let iw : IsIn w (with_cut p.first o) = subst I (sym (same ∙ f.1.2)) (in_middle f.1.0 w f.1.1) in
          let ip : IsIn p.block (with_cut first o) = subst J (sym p.split
          ∙ same) (in_middle p.before p.block p.after) in
          let at : p.block.segment ≡ w.segment = prefers-same effect p.block w (fit.preferred w iw
          (subst G (sym size) f.0.fit)) (f.0.preferred p.block ip (subst H size fit.fit)) in
          let u = split_unique fills.0 fills.1 p.before p.block p.after f.1.0 w f.1.1 (subst F p.split fills.2) lists
          at in
          record { owner = p.owner_is ∙ ap₂ (λ x c. taken_segment st.fit x c + 1) size u.1; size = size }

      by_second : (m : ℕ) (r : Option Header) → m ≡ min most (largest up effect (left_of (Some spoken) (join up L))) →
          pick up effect m None (left_of (Some spoken) (join up L)) ≡ r →
          (o k v w : ℕ) → Pairing up S start st n least most o k → Pairing up S start st n least most v w →
          IsSecond o k v w
      by_second m None is none o k v w p q =
          absurd (none_second up S start st n L b a e spoken refl refl effect effect-is least most
          (largest up effect (left_of (Some spoken) (join up L))) m refl is none o k p)
      by_second m (Some c) is some o k v w p q =
          let x = found_second m c is some o k p in
          let y = found_second m c is some v w q in
          record { owner = x.owner ∙ sym y.owner; size = x.size ∙ sym y.size }

    by_first : (L : List Header) (a : IsArena S start L) (r : Option Header) →
        pick up (in_effect up L st) n None (join up L) ≡ r → (o k v w : ℕ) → Pairing up S start st n least most o k →
        Pairing up S start st n least most v w → IsSecond o k v w
    by_first L a None e o k v w p q = absurd (none_first up S start st n least most L a e o k p)
    by_first L a (Some b) e o k v w p q = by_second L b a e _ _ refl refl o k v w p q

    second_unique : (o k v w : ℕ) → Pairing up S start st n least most o k → Pairing up S start st n least most v w →
        IsSecond o k v w
    second_unique o k v w p q = by_first p.first.list p.first.arena _ refl o k v w p q

    -- the lists that two pairings leave
    module _ (o k v w : ℕ) (p : Pairing up S start st n least most o k) (q : Pairing up S start st n least most v w)
      where
        lists : p.before ++ p.block ∷ p.after ≡ q.before ++ q.block ∷ q.after
        lists = sym p.split ∙ changed-same up S start st n p.first q.first o
            ∙ ap (with_cut q.first) (second_unique o k v w p q).owner ∙ q.split

        blocks : (p.before ≡ q.before) × (p.block ≡ q.block) × (p.after ≡ q.after)
        blocks =
            let fills = changed_fills up S start st n o p.first in
            let F : List Header → Type 0 = λ X. Fills fills.0 X fills.1 in
            let I : List Header → Type 0 = λ X. IsIn q.block X in
            let J : List Header → Type 0 = λ X. IsIn p.block X in
            let size = (second_unique o k v w p q).size in
            let E : Strategy = in_effect up (with_cut p.first o) st in
            let Q : Strategy → Type 0 = λ x. IsFit up x w (with_cut q.first v) q.block in
            let fit : IsFit up E w (with_cut q.first v) q.block = subst Q (ap (λ X. in_effect up X st) (q.split
            ∙ sym lists ∙ sym p.split)) q.fit in
            let G : ℕ → Type 0 = λ x. IsTrue (fits up E x q.block) in
            let H : ℕ → Type 0 = λ x. IsTrue (fits up E x p.block) in
            let iq : IsIn q.block (with_cut p.first o) =
            subst I (sym (p.split ∙ lists)) (in_middle q.before q.block q.after) in
            let ip : IsIn p.block (with_cut q.first v) = subst J (lists
            ∙ sym q.split) (in_middle p.before p.block p.after) in
            let at : p.block.segment ≡ q.block.segment =
            prefers-same E p.block q.block (p.fit.preferred q.block iq (subst G (sym size) fit.fit))
            (fit.preferred p.block ip (subst H size p.fit.fit)) in
            split_unique fills.0 fills.1 p.before p.block p.after q.before q.block q.after
            (subst F p.split fills.2) lists
            at

        pub paired-same : with_pair p ≡ with_pair q
        paired-same =
            let u = second_unique o k v w p q in
            ap₂ (λ P R. P ++ R) blocks.0
            (ap (λ x. cut_block st.fit x o p.block ++ p.after) u.size ∙ ap (λ x. cut_block st.fit w x p.block
            ++ p.after) u.owner ∙ ap₂ (λ c Q. cut_block st.fit w v c ++ Q) blocks.1 blocks.2)

    -- where the blocks are
    pub placed-same : (x y : Planned) → IsPair up S start st n least most x → IsPair up S start st n least most y →
        placed_of x ≡ placed_of y
    placed-same x y p q =
        let u = second_unique _ _ _ _ p.pairing q.pairing in
        let first : x.environment ≡ y.environment = p.environment_is
        ∙ ap (λ z. z + 1) (taken_segment-same up S start st n p.pairing.first q.pairing.first)
        ∙ sym q.environment_is in
        let program = u.owner in
        let size = u.size in
        λ i. record { environment = first i; program = program i; size = size i }

    -- what can be planned is not refused
    pub pair_refused : (x : Planned) → IsPair up S start st n least most x → (e : ArenaRefusal) →
        PairRefused up S start st n least most e → ⊥
    pair_refused x p Destroyed (inl none) = none p.pairing.first.list p.pairing.first.arena
    pair_refused x p Destroyed (inr r) = (let F : List Header → Type 0 = λ X. IsClear S X in
        r.3 (subst F (paired-same _ _ _ _ p.pairing r.2) p.clear))
    pair_refused x p (Short room) r = r.3 _ _ p.pairing
    pair_refused x p NoBlock r = r

    destroyed_room : (room : ℕ) → PairRefused up S start st n least most Destroyed →
        PairRefused up S start st n least most (Short room) → ⊥
    destroyed_room room (inl none) r = none r.0 r.1
    destroyed_room room (inr d) r = r.3 _ _ d.2

    pair_refused_same : (d e : ArenaRefusal) → PairRefused up S start st n least most d →
        PairRefused up S start st n least most e → d ≡ e
    pair_refused_same Destroyed Destroyed x y = refl
    pair_refused_same Destroyed (Short room) x y = absurd (destroyed_room room x y)
    pair_refused_same Destroyed NoBlock x y = absurd y
    pair_refused_same (Short room) Destroyed x y = absurd (destroyed_room room y x)
    pair_refused_same (Short room) (Short other) x y = ap (λ (z : ℕ). Short z) (x.2
        ∙ ap (λ X. largest up (in_effect up X st) (join up X)) (arena_unique S start x.0 y.0 x.1 y.1) ∙ sym y.2)
    pair_refused_same (Short room) NoBlock x y = absurd y
    pair_refused_same NoBlock e x y = absurd x

  pub pairing_unique : (S : Memory) (st : Strategy) (n least most : ℕ) (r q : Result Placed ArenaRefusal)
      (T U : Memory) → Pairs up S st n least most r T → Pairs up S st n least most q U → (r ≡ q) × (T ≡ U)
  pairing_unique S st n least most (Ok a) (Ok b) T U x y =
      let F : List Header → Type 0 = λ X. Becomes S first_header X U in (
        ap (λ (z : Placed). Ok z) (x.2 ∙ placed-same S first_header st n least most x.0 y.0 x.1 y.1 ∙ sym y.2),
        becomes_unique S first_header _ T U x.3 (subst F (sym (paired-same S first_header st n least most _ _ _ _
            x.1.pairing y.1.pairing)) y.3),
      )
  pairing_unique S st n least most (Ok a) (Err e) T U x y =
      absurd (pair_refused S first_header st n least most x.0 x.1 e y.1)
  pairing_unique S st n least most (Err e) (Ok b) T U x y =
      absurd (pair_refused S first_header st n least most y.0 y.1 e x.1)
  pairing_unique S st n least most (Err d) (Err e) T U x y =
      (ap (λ (z : ArenaRefusal). Err z) (pair_refused_same S first_header st n least most d e x.1 y.1), x.0 ∙ sym y.0)
