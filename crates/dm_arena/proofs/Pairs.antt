-- Two blocks, planned one after the other and written together.
use Rattle.std.proofs.Common.{◌≡◌, ◌≢◌, ℕ, ◌+◌, ◌-◌, ◌*◌, ◌<◌, ◌≤◌, Bool, true, false, not, ◌&&◌, IsTrue, max, min, List, [], ◌∷◌, ◌++◌, ◌⊎◌, inl, inr, refl, sym, ◌∙◌, ap, ap₂, subst, arith, Option, Some, None, nat_eq}
use Rattle.std.specs.Prelude.{if◌then◌else◌, option_to_list}
use Rattle.std.proofs.lemmas.Bool.Decides.{nat_tests}
use Rattle.dm_space.specs.Memory.{Memory, peek}
use Rattle.dm_space.proofs.Places.{place-shaped, shaped-then}
use Rattle.dm_blocks.specs.declared.header.Header.{Header}
use Rattle.dm_arena.specs.declared.cut.Cut.{Cut}
use Rattle.dm_arena.specs.declared.fit.Spoken.{Spoken}
use Rattle.dm_arena.specs.declared.fit.Strategy.{Strategy}
use Rattle.dm_arena.specs.declared.fit.Fit.{Fit}
use Rattle.dm_arena.specs.declared.fit.Fit.TheVariants.{First, Best, Last}
use Rattle.dm_blocks.specs.Chain.{HasHeader, IsClear, IsArena, IsNonEmpty, Spells, Becomes, next}
use Rattle.dm_blocks.specs.Chain.{is_free, is_link}
use Rattle.dm_arena.specs.Blocks.{in_effect, join, fits, largest, free_size, cut_block, cut_low, cut_high, taken_segment, IsIn, IsFit}
use Rattle.dm_arena.specs.inner.Blocks.{cut_list}
use Rattle.dm_arena.specs.inner.Standing.{MaySplit, IsNew}
use Rattle.dm_arena.specs.inner.Walks.{pick, better, left_of, left_part, rest_of, Fills, IsJoined, IsReplaceable, IsReplaced}
use Rattle.dm_arena.specs.Allocation.{with_cut}
use Rattle.dm_arena.specs.Pair.{Pairing, Planned, IsPair, with_pair}
use Rattle.dm_blocks.proofs.Chains.{has_left, has_right, has_either, spells_end, clear_within, clear_map}
use Rattle.dm_arena.proofs.Beside.{cut-has, clear-cut, unclear-cut, new-cut, stand-within, new-within}
use Rattle.dm_arena.proofs.Fitting.{fit_found, none_found}
use Rattle.dm_arena.proofs.Choosing.{pick-append, largest-append}
use Rattle.dm_arena.proofs.Allocating.{taking_of, in_middle, fits_size, cut_fills, join_after-fits, changed_fills, is_new, clear_changed, unclear_changed, changed_either, changed_has, placing_of, replaceable, becomes, signature-last}
use Rattle.dm_arena.proofs.Ends.{fills_above, fills_left, fills_right, fills_ends, join_fills}
use Rattle.dm_arena.proofs.OneAnswer.{changed-same, none_taken}

-- what is left of a list in which one block is spoken for
left-append : (o : Option Spoken) (X Y : List Header) → left_of o (X ++ Y) ≡ left_of o X ++ left_of o Y
left-append o [] Y = refl
left-append o (x ∷ X) Y = ap (λ Z. option_to_list (left_part o x) ++ Z) (left-append o X Y)
    ∙ sym (assoc (option_to_list (left_part o x)) (left_of o X) (left_of o Y))
  where
    assoc : (A B C : List Header) → (A ++ B) ++ C ≡ A ++ (B ++ C)
    assoc [] B C = refl
    assoc (x ∷ A) B C = ap (λ z. x ∷ z) (assoc A B C)

test-other : (a b : ℕ) → a ≢ b → nat_eq a b ≡ false
test-other a b ne = grind (arith, nat_tests)

test-same : (a b : ℕ) → a ≡ b → nat_eq a b ≡ true
test-same a b e = grind (arith, nat_tests)

left-other : (s : Spoken) (X : List Header) → ((g : ℕ) → HasHeader X g → s.segment ≢ g) → left_of (Some s) X ≡ X
left-other s [] ne = refl
left-other s (x ∷ X) ne =
    let t : nat_eq s.segment x.segment ≡ false = test-other s.segment x.segment (ne x.segment (inl refl)) in
    rw t (ap (λ Z. x ∷ Z) (left-other s X (λ g w. ne g (inr w))))

left-split : (h t : ℕ) (P : List Header) (b : Header) (Q : List Header) (s : Spoken) → Fills h (P ++ b ∷ Q) t →
    s.segment ≡ b.segment → left_of (Some s) (P ++ b ∷ Q) ≡ P ++ (option_to_list s.rest ++ Q)
left-split h t P b Q s f e =
    let p : left_of (Some s) P ≡ P = left-other s P (λ g w z. (let y = fills_left h t P b Q f g w in omega arith)) in
    let q : left_of (Some s) Q ≡ Q = left-other s Q (λ g w z. (let y =
    fills_above (next b) t Q (fills_right h t P b Q f) g w in omega arith)) in
    let m : left_part (Some s) b ≡ s.rest = (let z : nat_eq s.segment b.segment ≡ true =
    test-same s.segment b.segment e in rw z refl) in
    left-append (Some s) P (b ∷ Q) ∙ ap₂ (λ X Y. X ++ Y) p (ap₂ (λ o Y. option_to_list o ++ Y) m q)

-- parts of a block end where it ends
fills_in : (h t : ℕ) (C : List Header) → Fills h C t → (c : Header) → IsIn c C → next c ≤ t
fills_in h t [] f c i = absurd i
fills_in h t (d ∷ C) f c (inl e) = (let y = fills_ends (next d) t C f.1 in let z : next c ≡ next d = ap next e in
    omega arith)
fills_in h t (d ∷ C) f c (inr i) = fills_in (next d) t C f.1 c i

in_either : (P Q : List Header) (c : Header) → IsIn c (P ++ Q) → IsIn c P ⊎ IsIn c Q
in_either [] Q c i = inr i
in_either (p ∷ P) Q c (inl e) = inl (inl e)
in_either (p ∷ P) Q c (inr i) = elim (in_either P Q c i) [ inl l ↦ inl (inr l) | inr r ↦ inr r ]

in_left : (P Q : List Header) (c : Header) → IsIn c P → IsIn c (P ++ Q)
in_left [] Q c i = absurd i
in_left (p ∷ P) Q c (inl e) = inl e
in_left (p ∷ P) Q c (inr i) = inr (in_left P Q c i)

in_right : (P Q : List Header) (c : Header) → IsIn c Q → IsIn c (P ++ Q)
in_right [] Q c i = i
in_right (p ∷ P) Q c i = inr (in_right P Q c i)

-- the writes
head_fills : (h t : ℕ) (C : List Header) → Fills h C t → h < t → HasHeader C h
head_fills h t [] f l = omega arith
head_fills h t (c ∷ C) f l = inl f.0

nonempty : (P : List Header) (d : Header) (Q : List Header) → IsNonEmpty (P ++ d ∷ Q)
nonempty [] d Q = tt
nonempty (q ∷ P) d Q = tt

and-right-false : (x y : Bool) → y ≡ false → x && y ≡ false
and-right-false true y e = e
and-right-false false y e = refl

max-none : (x y : ℕ) → x ≡ 0 → max x y ≡ y
max-none x y e = omega arith

max-after : (x y : ℕ) → y ≡ 0 → max x (max y 0) ≡ max x 0
max-after x y e = omega arith

module _ (up : Bool) where
  -- the taken part of a cut block is not looked at
  better-taken : (st : Strategy) (m : ℕ) (best : Option Header) (c : Header) → is_free up c ≡ false →
      better up st m best c ≡ best
  better-taken st m None c e = rw e refl
  better-taken st m (Some a) c e = rw e refl

  owned-taken : (c : Header) → 0 < c.owner → is_free up c ≡ false
  owned-taken c h = and-right-false (not (is_link up c.segment)) (nat_eq c.owner 0) (grind (arith, nat_tests))

  low-pick : (st : Strategy) (m n owner : ℕ) (best : Option Header) (b : Header) (r : Bool) → nat_eq b.size n ≡ r →
      0 < owner → pick up st m best (cut_low n owner b) ≡ pick up st m best (option_to_list (if nat_eq b.size n then
      None else Some (record { segment = b.segment + 1 + n; owner = 0; size = b.size - n - 1 })))
  low-pick st m n owner best b true e h = rw e (better-taken st m best (record b { owner = owner })
      (owned-taken (record b { owner = owner }) h))
  low-pick st m n owner best b false e h =
      rw e (ap (λ x. better up st m x (record { segment = b.segment + 1 + n; owner = 0; size = b.size - n - 1 }))
      (better-taken st m best (record { segment = b.segment; owner = owner; size = n })
      (owned-taken (record { segment = b.segment; owner = owner; size = n }) h)))

  high-pick : (st : Strategy) (m n owner : ℕ) (best : Option Header) (b : Header) (r : Bool) → nat_eq b.size n ≡ r →
      0 < owner → pick up st m best (cut_high n owner b) ≡ pick up st m best (option_to_list (if nat_eq b.size n then
      None else Some (record { segment = b.segment; owner = 0; size = b.size - n - 1 })))
  high-pick st m n owner best b true e h = rw e (better-taken st m best (record b { owner = owner })
      (owned-taken (record b { owner = owner }) h))
  high-pick st m n owner best b false e h =
      rw e (better-taken st m (better up st m best (record { segment = b.segment; owner = 0; size = b.size - n - 1 }))
      (record { segment = b.segment + b.size - n; owner = owner; size = n })
      (owned-taken (record { segment = b.segment + b.size - n; owner = owner; size = n }) h))

  cut-pick : (f : Fit) (st : Strategy) (m n owner : ℕ) (best : Option Header) (b : Header) → 0 < owner →
      pick up st m best (cut_block f n owner b) ≡ pick up st m best (option_to_list (rest_of f n b))
  cut-pick First st m n owner best b h = low-pick st m n owner best b _ refl h
  cut-pick Best st m n owner best b h = low-pick st m n owner best b _ refl h
  cut-pick Last st m n owner best b h = high-pick st m n owner best b _ refl h

  owned-size : (st : Strategy) (c : Header) → 0 < c.owner → free_size up st c ≡ 0
  owned-size st c h = (let e : is_free up c ≡ false = owned-taken c h in rw e refl)

  low-largest : (st : Strategy) (n owner : ℕ) (b : Header) (r : Bool) → nat_eq b.size n ≡ r → 0 < owner →
      largest up st (cut_low n owner b) ≡ largest up st (option_to_list (if nat_eq b.size n then None else
      Some (record { segment = b.segment + 1 + n; owner = 0; size = b.size - n - 1 })))
  low-largest st n owner b true e h = rw e (ap (λ x. max x 0) (owned-size st (record b { owner = owner }) h)
      ∙ omega arith)
  low-largest st n owner b false e h = rw e (max-none _ _ (owned-size st (record {
    segment = b.segment;
    owner = owner;
    size = n;
  }) h))

  high-largest : (st : Strategy) (n owner : ℕ) (b : Header) (r : Bool) → nat_eq b.size n ≡ r → 0 < owner →
      largest up st (cut_high n owner b) ≡ largest up st (option_to_list (if nat_eq b.size n then None else
      Some (record { segment = b.segment; owner = 0; size = b.size - n - 1 })))
  high-largest st n owner b true e h = rw e (ap (λ x. max x 0) (owned-size st (record b { owner = owner }) h)
      ∙ omega arith)
  high-largest st n owner b false e h = rw e (max-after _ _ (owned-size st (record {
    segment = b.segment + b.size - n;
    owner = owner;
    size = n;
  }) h))

  cut-largest : (st : Strategy) (f : Fit) (n owner : ℕ) (b : Header) → 0 < owner →
      largest up st (cut_block f n owner b) ≡ largest up st (option_to_list (rest_of f n b))
  cut-largest st First n owner b h = low-largest st n owner b _ refl h
  cut-largest st Best n owner b h = low-largest st n owner b _ refl h
  cut-largest st Last n owner b h = high-largest st n owner b _ refl h

  joined_fit : (S : Memory) (h : ℕ) (L : List Header) → Spells S h L → (c : Header) → IsIn c (join up L) →
      next c ≤ 0xFFFF
  joined_fit S h [] s c i = absurd i
  joined_fit S h (b ∷ L) s c i = join_after-fits up S b L s.1.fits s.2 c i

  -- the first block taken, and what is left for the second
  module _ (S : Memory) (start : ℕ) (st : Strategy) (n : ℕ) (L : List Header) (b : Header) (a : IsArena S start L)
      (e : pick up (in_effect up L st) n None (join up L) ≡ Some b) (s : Spoken) (ss : s.segment ≡ b.segment)
      (sr : s.rest ≡ rest_of st.fit n b) where
    left-is : (o : ℕ) → left_of (Some s) (join up L) ≡ (taking_of up S start st n L b a e).before
        ++ (option_to_list (rest_of st.fit n b) ++ (taking_of up S start st n L b a e).after)
    left-is o =
        let t = taking_of up S start st n L b a e in
        let r = join_fills up S start L a.0.1 in
        let F : List Header → Type 0 = λ X. Fills r.1 X r.0 in
        ap (left_of (Some s)) t.joined ∙ left-split r.1 r.0 t.before b t.after s (subst F t.joined r.2) ss
        ∙ ap (λ z. t.before ++ (option_to_list z ++ t.after)) sr

    pub left-pick : (E : Strategy) (o : ℕ) → 0 < o → (m : ℕ) →
        pick up E m None (with_cut (taking_of up S start st n L b a e) o)
        ≡ pick up E m None (left_of (Some s) (join up L))
    left-pick E o h m =
        let t = taking_of up S start st n L b a e in
        let P = t.before in
        let Q = t.after in
        let R : List Header = option_to_list (rest_of st.fit n b) in
        pick-append up E m None P (cut_block st.fit n o b ++ Q)
        ∙ pick-append up E m (pick up E m None P) (cut_block st.fit n o b) Q
        ∙ ap (λ x. pick up E m x Q) (cut-pick st.fit E m n o (pick up E m None P) b h)
        ∙ sym (pick-append up E m (pick up E m None P) R Q)
        ∙ sym (pick-append up E m None P (R ++ Q))
        ∙ ap (pick up E m None) (sym (left-is o))

    pub left-largest : (E : Strategy) (o : ℕ) → 0 < o → largest up E (with_cut (taking_of up S start st n L b a e) o)
        ≡ largest up E (left_of (Some s) (join up L))
    left-largest E o h =
        let t = taking_of up S start st n L b a e in
        let P = t.before in
        let Q = t.after in
        let R : List Header = option_to_list (rest_of st.fit n b) in
        largest-append up E P (cut_block st.fit n o b ++ Q)
        ∙ ap (max (largest up E P)) (largest-append up E (cut_block st.fit n o b) Q
        ∙ ap (λ x. max x (largest up E Q)) (cut-largest E st.fit n o b h) ∙ sym (largest-append up E R Q))
        ∙ sym (largest-append up E P (R ++ Q))
        ∙ ap (largest up E) (sym (left-is o))

    left-fits : (o : ℕ) (c : Header) → IsIn c (with_cut (taking_of up S start st n L b a e) o) → next c ≤ 0xFFFF
    left-fits o c i =
        let t = taking_of up S start st n L b a e in
        let F : List Header → Type 0 = λ X. IsIn c X in
        let G : List Header → Type 0 = λ X. IsIn b X in
        let whole : next b ≤ 0xFFFF = joined_fit S start L a.0.1 b (subst G (sym t.joined)
        (in_middle t.before b t.after)) in
        elim (in_either t.before (cut_block st.fit n o b ++ t.after) c i) [
          | inl l ↦ joined_fit S start L a.0.1 c (subst F (sym t.joined) (in_left t.before (b ∷ t.after) c l))
          | inr r ↦ elim (in_either (cut_block st.fit n o b) t.after c r) [
            | inl l ↦ (let y = fills_in b.segment (next b) (cut_block st.fit n o b) (cut_fills st.fit n o b
                (fits_size up (in_effect up L st) n b t.fit.fit)) c l in omega arith)
            | inr q ↦ joined_fit S start L a.0.1 c (subst F (sym t.joined) (in_right t.before (b ∷ t.after) c (inr q)))
          ]
        ]

    -- the second block, by the strategy E
    module _ (E : Strategy) (m : ℕ) (w : Header) (chosen : pick up E m None (left_of (Some s) (join up L))
        ≡ Some w) where
      pub second_fit : (o : ℕ) → 0 < o → IsFit up E m (with_cut (taking_of up S start st n L b a e) o) w ×
          ((P : List Header) × (Q : List Header) × (with_cut (taking_of up S start st n L b a e) o ≡ P ++ w ∷ Q))
      second_fit o h = fit_found up E m (with_cut (taking_of up S start st n L b a e) o) w (left-pick E o h m ∙ chosen)

      pub second_within : m ≤ w.size
      second_within = fits_size up E m w (second_fit 1 (omega arith)).0.fit

      pub second_ends : next w ≤ 0xFFFF
      second_ends =
          let f = second_fit 1 (omega arith) in
          let F : List Header → Type 0 = λ X. IsIn w X in
          left-fits 1 w (subst F (sym f.1.2) (in_middle f.1.0 w f.1.1))

      module _ (E-is : (o : ℕ) → E ≡ in_effect up (with_cut (taking_of up S start st n L b a e) o) st)
          (least most left o : ℕ) (left-of : left ≡ largest up E (left_of (Some s) (join up L))) (size-of : m
          ≡ min most left) (enough : least ≤ m) (owner-of : o ≡ taken_segment st.fit m w + 1) where
        pub owned : 0 < o
        owned = omega arith

        abbrev pub pairing : Pairing up S start st n least most o m
        pairing =
            let f = second_fit o owned in
            let t = taking_of up S start st n L b a e in
            let F : Strategy → Type 0 = λ x. IsFit up x m (with_cut t o) w in
            record {
              first = taking_of up S start st n L b a e;
              before = f.1.0;
              block = w;
              after = f.1.1;
              split = f.1.2;
              fit = subst F (E-is o) f.0;
              size_is = size-of ∙ ap (min most) (left-of ∙ sym (left-largest E o owned)
                  ∙ ap (λ x. largest up x (with_cut t o)) (E-is o));
              enough = enough;
              owner_is = owner-of;
            }

        module _ (c d : Cut) (c-is : cut_list c ≡ cut_block st.fit n o b) (d-is : cut_list d
            ≡ cut_block st.fit m o w) where
          second-fills : Fills w.segment (cut_list d) (next w)
          second-fills = let F : List Header → Type 0 = λ X. Fills w.segment X (next w) in
              subst F (sym d-is) (cut_fills st.fit m o w second_within)

          -- neither new header is one that was there
          pub first_new : IsNew (join up L) c.second
          first_new = is_new up S start st n o L b a e c c-is

          split-new : IsNew ((second_fit o owned).1.0 ++ w ∷ (second_fit o owned).1.1) d.second
          split-new =
              let f = second_fit o owned in
              let t = taking_of up S start st n L b a e in
              let r = changed_fills up S start st n o t in
              let F : List Header → Type 0 = λ X. Fills r.0 X r.1 in
              let ends = subst F f.1.2 r.2 in
              new-cut f.1.0 w f.1.1 (next w) d.first d.second (fills_left r.0 r.1 f.1.0 w f.1.1 ends)
              (fills_above (next w) r.1 f.1.1 (fills_right r.0 r.1 f.1.0 w f.1.1 ends)) second-fills

          pub second_new : IsNew (option_to_list c.second ++ join up L) d.second
          second_new =
              let f = second_fit o owned in
              let t = taking_of up S start st n L b a e in
              let F : List Header → Type 0 = λ X. IsNew X d.second in
              new-within (with_cut t o) (option_to_list c.second ++ join up L) d.second
              (changed_has up S start st n o L b a e c c-is) (subst F (sym f.1.2) split-new)

          pub pair_clear : MaySplit S (join up L) c.second × MaySplit S (option_to_list c.second
              ++ join up L) d.second → IsClear S (with_pair pairing)
          pair_clear may =
              let f = second_fit o owned in
              let t = taking_of up S start st n L b a e in
              let F : List Header → Type 0 = λ X. IsClear S (f.1.0 ++ (X ++ f.1.1)) in
              let G : List Header → Type 0 = λ X. IsClear S X in
              let H : List Header → Type 0 = λ X. MaySplit S X d.second in
              let first : IsClear S (with_cut t o) = clear_changed up S start st n o L b a e c c-is may.0 in
              let second : MaySplit S (with_cut t o) d.second = stand-within S (option_to_list c.second
              ++ join up L) (with_cut t o) d.second (changed_either up S start st n o L b a e c c-is) may.1 in
              subst F d-is (clear-cut S f.1.0 w f.1.1 d.first d.second second-fills.0 (subst G f.1.2 first)
              (subst H f.1.2 second))

          pub pair_unclear : (MaySplit S (join up L) c.second → ⊥) ⊎ (MaySplit S (option_to_list c.second
              ++ join up L) d.second → ⊥) → IsClear S (with_pair pairing) → ⊥
          pair_unclear bad k =
              let f = second_fit o owned in
              let t = taking_of up S start st n L b a e in
              let F : List Header → Type 0 = λ X. IsClear S (f.1.0 ++ (X ++ f.1.1)) in
              let G : List Header → Type 0 = λ X. MaySplit S X d.second in
              let k' : IsClear S (f.1.0 ++ (cut_list d ++ f.1.1)) = subst F (sym d-is) k in
              let has : (g : ℕ) → HasHeader (with_cut t o) g → HasHeader (f.1.0 ++ (cut_list d ++ f.1.1)) g =
              λ g h. (let H : List Header → Type 0 = λ X. HasHeader X g in
              cut-has f.1.0 w d.first d.second f.1.1 second-fills.0 g (subst H f.1.2 h)) in
              elim bad [
                | inl h ↦ unclear_changed up S start st n o L b a e c c-is h (clear_within S (f.1.0
                    ++ (cut_list d ++ f.1.1)) (with_cut t o) has k')
                | inr h ↦ unclear-cut S f.1.0 w f.1.1 d.first d.second second-fills.0 split-new
                    (λ x. h (stand-within S (with_cut t o) (option_to_list c.second
                    ++ join up L) d.second (changed_has up S start st n o L b a e c c-is) (subst G (sym f.1.2) x))) k'
              ]

    -- no room for the second block
    module _ (E : Strategy) (E-is : (o : ℕ) → E ≡ in_effect up (with_cut (taking_of up S start st n L b a e) o) st)
        (least most left m : ℕ) (left-of : left ≡ largest up E (left_of (Some s) (join up L))) (size-of : m
        ≡ min most left) where
      pub size_same : (o k : ℕ) → Pairing up S start st n least most o k → k ≡ m
      size_same o k p =
          let h : 0 < o = (let y = p.owner_is in omega arith) in
          let t = taking_of up S start st n L b a e in
          p.size_is ∙ ap (λ X. min most (largest up (in_effect up X st) X)) (changed-same up S start st n p.first t o)
          ∙ ap (λ x. min most (largest up x (with_cut t o))) (sym (E-is o)) ∙ ap (min most) (left-largest E o h
          ∙ sym left-of) ∙ sym size-of

      pub too_small : m < least → (o k : ℕ) → Pairing up S start st n least most o k → ⊥
      too_small h o k p = (let x = size_same o k p in let y = p.enough in omega arith)

      pub none_second : pick up E m None (left_of (Some s) (join up L)) ≡ None → (o k : ℕ) →
          Pairing up S start st n least most o k → ⊥
      none_second is o k p =
          let h : 0 < o = (let y = p.owner_is in omega arith) in
          let t = taking_of up S start st n L b a e in
          let same : with_cut p.first o ≡ with_cut t o = changed-same up S start st n p.first t o in
          let F : List Header → Type 0 = λ X. IsIn p.block X in
          let G : ℕ → Type 0 = λ x. IsTrue (fits up E x p.block) in
          let H : Strategy → Type 0 = λ x. IsTrue (fits up x k p.block) in
          let i : IsIn p.block (with_cut t o) =
          subst F same (subst F (sym p.split) (in_middle p.before p.block p.after)) in
          none_found up E m (with_cut t o) (left-pick E o h m ∙ is) p.block i (subst G (size_same o k p)
          (subst H (ap (λ X. in_effect up X st) same ∙ sym (E-is o)) p.fit.fit))

  pub none_first : (S : Memory) (start : ℕ) (st : Strategy) (n least most : ℕ) (L : List Header) → IsArena S start L →
      pick up (in_effect up L st) n None (join up L) ≡ None → (o k : ℕ) → Pairing up S start st n least most o k → ⊥
  none_first S start st n least most L a is o k p =
      none_taken up S start st n L a (none_found up (in_effect up L st) n (join up L) is) p.first

  module _ (S : Memory) (start : ℕ) (st : Strategy) (n least most : ℕ) (pair : Planned)
      (p : IsPair up S start st n least most pair) (c d : Cut) (c-is : cut_list c ≡ pair.first) (d-is : cut_list d
      ≡ pair.second) (U : Memory) (j : IsJoined up S start p.pairing.first.list U) where
    c-cut : cut_list c ≡ cut_block st.fit n pair.program p.pairing.first.block
    c-cut = c-is ∙ p.first_is

    d-cut : cut_list d ≡ cut_block st.fit pair.size pair.program p.pairing.block
    d-cut = d-is ∙ p.second_is

    new_fills : Fills p.pairing.block.segment (cut_list d) (next p.pairing.block)
    new_fills = (let F : List Header → Type 0 = λ X. Fills p.pairing.block.segment X (next p.pairing.block) in
        subst F (sym d-cut) (cut_fills st.fit pair.size pair.program p.pairing.block
        (fits_size up (in_effect up (with_cut p.pairing.first pair.program) st) pair.size p.pairing.block
        p.pairing.fit.fit)))

    has_last : (g : ℕ) → HasHeader (with_cut p.pairing.first pair.program) g → HasHeader (p.pairing.before
        ++ (cut_list d ++ p.pairing.after)) g
    has_last g h =
        let q = p.pairing in
        let G : List Header → Type 0 = λ X. HasHeader X g in
        let F : ℕ → Type 0 = λ x. HasHeader (cut_list d) x in
        elim (has_either q.before (q.block ∷ q.after) g (subst G q.split h)) [
          | inl l ↦ has_left q.before (cut_list d ++ q.after) g l
          | inr r ↦ elim r [
            | inl z ↦ has_right q.before (cut_list d ++ q.after) g (has_left (cut_list d) q.after g
                (subst F z (head_fills _ _ (cut_list d) new_fills (omega arith))))
            | inr z ↦ has_right q.before (cut_list d ++ q.after) g (has_right (cut_list d) q.after g z)
          ]
        ]

    last_clear : IsClear S (p.pairing.before ++ (cut_list d ++ p.pairing.after))
    last_clear = (let F : List Header → Type 0 = λ X. IsClear S (p.pairing.before ++ (X ++ p.pairing.after)) in
        subst F (sym d-cut) p.clear)

    first_clear : IsClear S (with_cut p.pairing.first pair.program)
    first_clear = clear_within S (p.pairing.before ++ (cut_list d ++ p.pairing.after)) _ has_last last_clear

    pub first_replaceable : (last : Bool) → last ≡ nat_eq (peek U (16 * c.first.segment)) 0x5A →
        IsReplaceable U start p.pairing.first.before (p.pairing.first.block ∷ []) p.pairing.first.after
        (cut_list c) last p.pairing.first.block.segment (next p.pairing.first.block)
    first_replaceable last e = replaceable up S U start c (placing_of up S start st n pair.program c p.pairing.first
        c-cut first_clear) j last e

    module _ (V : Memory) (r : IsReplaced U start p.pairing.first.before p.pairing.first.after (cut_list c) V) where
      first_becomes : Becomes S start (with_cut p.pairing.first pair.program) V
      first_becomes =
          let F : List Header → Type 0 = λ X. Becomes S start (p.pairing.first.before
          ++ (X ++ p.pairing.first.after)) V in
          subst F c-cut (becomes up S U start c (placing_of up S start st n pair.program c p.pairing.first c-cut
          first_clear) j V r)

      spelled : Spells V start (p.pairing.before ++ p.pairing.block ∷ p.pairing.after)
      spelled = (let F : List Header → Type 0 = λ X. Spells V start X in subst F p.pairing.split first_becomes.chain.1)

      pub second_replaceable : (last : Bool) → last ≡ nat_eq (peek V (16 * d.first.segment)) 0x5A →
          IsReplaceable V start p.pairing.before (p.pairing.block ∷ []) p.pairing.after
          (cut_list d) last p.pairing.block.segment (next p.pairing.block)
      second_replaceable last e = record {
        nonempty = tt;
        spells = spelled;
        old_fills = (refl, refl);
        new_fills = new_fills;
        end = e ∙ ap (λ h. nat_eq (peek V (16 * h)) 0x5A) new_fills.0
            ∙ signature-last V p.pairing.block p.pairing.after (spells_end V start p.pairing.before p.pairing.block
            p.pairing.after spelled).1;
        clear = clear_map S V _ (place-shaped S V first_becomes.differs.shape) last_clear;
      }

      pub pair_becomes : (T : Memory) → IsReplaced V start p.pairing.before p.pairing.after (cut_list d) T →
          Becomes S start (with_pair p.pairing) T
      pair_becomes T x =
          let q = p.pairing in
          let F : List Header → Type 0 = λ X. Becomes S start (q.before ++ (X ++ q.after)) T in
          let y = first_becomes in
          subst F d-cut (record {
            clear = last_clear;
            chain = (nonempty q.before d.first (option_to_list d.second ++ q.after), x.spells);
            differs = record {
              shape = shaped-then S V T y.differs.shape x.differs.shape;
              kept = λ z ne. x.differs.kept z (λ h k w small e. ne h k (has_right q.before (cut_list d
                  ++ q.after) h (has_left (cut_list d) q.after h w)) small (e ∙ place-shaped S V y.differs.shape _))
                  ∙ y.differs.kept z (λ h k w. ne h k (has_last h w));
            };
          })
