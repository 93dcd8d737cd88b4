-- The parts of an allocation.
use Rattle.std.proofs.Common.{◌≡◌, ℕ, ◌+◌, ◌-◌, ◌*◌, ◌<◌, ◌≤◌, Bool, true, false, ◌&&◌, IsTrue, List, [], ◌∷◌, ◌++◌, ◌⊎◌, inl, inr, refl, sym, ◌∙◌, ap, subst, arith, Some, None, nat_eq, nat_le}
use Rattle.std.specs.Prelude.{option_to_list}
use Rattle.std.proofs.lemmas.Bool.Decides.{nat_tests}
use Rattle.dm_space.specs.Memory.{Memory, peek}
use Rattle.dm_space.proofs.Places.{place-shaped, shaped-then}
use Rattle.dm_blocks.specs.declared.header.Header.{Header}
use Rattle.dm_arena.specs.declared.cut.Cut.{Cut}
use Rattle.dm_arena.specs.declared.fit.Strategy.{Strategy}
use Rattle.dm_arena.specs.declared.fit.Fit.{Fit}
use Rattle.dm_arena.specs.declared.fit.Fit.TheVariants.{First, Best, Last}
use Rattle.dm_blocks.specs.Chain.{IsHeader, signature, Spells, HasHeader, IsNonEmpty, next, IsClear, IsArena, Becomes}
use Rattle.dm_blocks.specs.Reading.{is_nil}
use Rattle.dm_arena.specs.inner.Walks.{pick, Fills, IsReplaceable, IsReplaced, IsJoined, Placing, IsPlan}
use Rattle.dm_blocks.specs.Chain.{is_free}
use Rattle.dm_arena.specs.Blocks.{in_effect, is_candidate, merge, join, join_after, fits, cut_block, cut_low, cut_high, taken_segment, IsIn}
use Rattle.dm_arena.specs.inner.Blocks.{cut_list}
use Rattle.dm_arena.specs.Allocation.{Taking, with_cut}
use Rattle.dm_arena.specs.inner.Standing.{MaySplit, IsNew}
use Rattle.dm_blocks.proofs.Chains.{has_left, has_right, has_either, spells_end, clear_map, clear_within}
use Rattle.dm_arena.proofs.Beside.{cut-either, cut-has, cut-new, clear-cut, unclear-cut, new-cut}
use Rattle.dm_arena.proofs.Ends.{bool_cases, join_after-cond, fills_left, fills_right, fills_above, fills_replaced, join_fills}
use Rattle.dm_arena.proofs.Fitting.{fit_found}

pub in_middle : (P : List Header) (b : Header) (Q : List Header) → IsIn b (P ++ b ∷ Q)
in_middle [] b Q = inl refl
in_middle (p ∷ P) b Q = inr (in_middle P b Q)

-- the parts of a cut block lie end to end
fills_by : (h t : ℕ) (C D : List Header) → C ≡ D → Fills h D t → Fills h C t
fills_by h t C D e f = let P : List Header → Type 0 = λ X. Fills h X t in subst P (sym e) f

less_of : (a n : ℕ) → nat_eq a n ≡ false → n ≤ a → n < a
less_of a n e h = grind (arith, nat_tests)

cut_low-fills : (n owner : ℕ) (b : Header) (r : Bool) → nat_eq b.size n ≡ r → n ≤ b.size →
    Fills b.segment (cut_low n owner b) (next b)
cut_low-fills n owner b true e h = fills_by _ _ _ (record b { owner = owner } ∷ []) (rw e refl) (refl, refl)
cut_low-fills n owner b false e h =
    let l = less_of b.size n e h in
    fills_by _ _ _ (record { segment = b.segment; owner = owner; size = n } ∷ record {
      segment = b.segment + 1 + n;
      owner = 0;
      size = b.size - n - 1;
    } ∷ []) (rw e refl) (refl, (refl, omega arith))

cut_high-fills : (n owner : ℕ) (b : Header) (r : Bool) → nat_eq b.size n ≡ r → n ≤ b.size →
    Fills b.segment (cut_high n owner b) (next b)
cut_high-fills n owner b true e h = fills_by _ _ _ (record b { owner = owner } ∷ []) (rw e refl) (refl, refl)
cut_high-fills n owner b false e h =
    let l = less_of b.size n e h in
    fills_by _ _ _ (record { segment = b.segment; owner = 0; size = b.size - n - 1 }
    ∷ record { segment = b.segment + b.size - n; owner = owner; size = n } ∷ []) (rw e refl) (
      refl,
      (omega arith, omega arith),
    )

pub cut_fills : (f : Fit) (n owner : ℕ) (b : Header) → n ≤ b.size → Fills b.segment (cut_block f n owner b) (next b)
cut_fills First n owner b h = cut_low-fills n owner b _ refl h
cut_fills Best n owner b h = cut_low-fills n owner b _ refl h
cut_fills Last n owner b h = cut_high-fills n owner b _ refl h

-- the writes
pub signature-last : (S : Memory) (b : Header) (Q : List Header) → IsHeader S b (signature Q) →
    nat_eq (peek S (16 * b.segment)) 0x5A ≡ is_nil Q
signature-last S b [] h = rw h.signed refl
signature-last S b (q ∷ Q) h = rw h.signed refl

and-right : (x y : Bool) → IsTrue (x && y) → IsTrue y
and-right true y h = h
and-right false y h = absurd (let z : false ≡ true = h in cc)

pub and-true : (x : Bool) → x && true ≡ x
and-true true = refl
and-true false = refl

module _ (up : Bool) where
  -- the headers of the joined list are headers of the list
  join_after-within : (b : Header) (L : List Header) (g : ℕ) → HasHeader (join_after up b L) g → (b.segment ≡ g) ⊎
      HasHeader L g
  join_after-within b [] g w = elim w [ inl e ↦ inl e | inr r ↦ absurd r ]
  join_after-within b (c ∷ L) g w =
      let P : List Header → Type 0 = λ M. HasHeader M g in
      elim (bool_cases (is_free up b && is_free up c)) [
        | inl e ↦ elim (join_after-within (merge b c) L g (subst P (join_after-cond up b c L true e) w)) [
          | inl s ↦
              inl s
          | inr r ↦ inr (inr r)
        ]
        | inr e ↦ elim (subst P (join_after-cond up b c L false e) w) [
          | inl s ↦ inl s
          | inr r ↦
              inr (join_after-within c L g r)
        ]
      ]

  pub join-within : (L : List Header) (g : ℕ) → HasHeader (join up L) g → HasHeader L g
  join-within [] g w = w
  join-within (b ∷ L) g w = join_after-within b L g w

  -- blocks of the joined list end below FFFFh
  pub join_after-fits : (S : Memory) (b : Header) (L : List Header) → next b ≤ 0xFFFF → Spells S (next b) L →
      (c : Header) → IsIn c (join_after up b L) → next c ≤ 0xFFFF
  join_after-fits S b [] f s c i = elim i [ inl e ↦ rw e f | inr r ↦ absurd r ]
  join_after-fits S b (d ∷ L) f s c i =
      let P : List Header → Type 0 = λ M. IsIn c M in
      let e = s.0 in
      let fd : next d ≤ 0xFFFF = s.1.fits in
      let at : next (merge b d) ≡ next d = omega arith in
      elim (bool_cases (is_free up b && is_free up d)) [
        | inl e ↦ join_after-fits S (merge b d) L (omega arith) (let Q : ℕ → Type 0 = λ z. Spells S z L in
            subst Q (sym at) s.2) c (subst P (join_after-cond up b d L true e) i)
        | inr e ↦ elim (subst P (join_after-cond up b d L false e) i) [
          | inl q ↦ rw q f
          | inr r ↦
              join_after-fits S d L fd s.2 c r
        ]
      ]

  pub block_fits : (S : Memory) (h : ℕ) (L P : List Header) (b : Header) (Q : List Header) → Spells S h L →
      join up L ≡ P ++ b ∷ Q → next b ≤ 0xFFFF
  block_fits S h [] P b Q s e = let F : List Header → Type 0 = λ M. IsIn b M in
      absurd (subst F (sym e) (in_middle P b Q))
  block_fits S h (c ∷ L) P b Q s e = let F : List Header → Type 0 = λ M. IsIn b M in
      join_after-fits S c L s.1.fits s.2 b (subst F (sym e) (in_middle P b Q))

  pub fits_size : (st : Strategy) (n : ℕ) (b : Header) → IsTrue (fits up st n b) → n ≤ b.size
  fits_size st n b h =
      let x = and-right (is_candidate up st b) (nat_le n b.size) h in
      grind (arith, nat_tests)

  -- the joined list is as clear as the list
  pub join-clear : (S : Memory) (start : ℕ) (L : List Header) → IsArena S start L → IsClear S (join up L)
  join-clear S start L a = clear_within S L (join up L) (join-within L) a.1

  -- the list in which the first block is taken lies end to end
  pub changed_fills : (S : Memory) (start : ℕ) (st : Strategy) (n o : ℕ) (t : Taking up S start st n) → (h e : ℕ) ×
      Fills h (with_cut t o) e
  changed_fills S start st n o t =
      let r = join_fills up S start t.list t.arena.0.1 in
      let F : List Header → Type 0 = λ X. Fills r.1 X r.0 in (
        r.1,
        r.0,
        fills_replaced r.1 r.0 t.before t.block (cut_block st.fit n o t.block) t.after (subst F t.joined
            r.2) (cut_fills st.fit n o t.block (fits_size (in_effect up t.list st) n t.block t.fit.fit)),
      )

  -- the block that the search found
  abbrev pub taking_of : (S : Memory) (start : ℕ) (st : Strategy) (n : ℕ) (L : List Header) (b : Header) →
      IsArena S start L → pick up (in_effect up L st) n None (join up L) ≡ Some b → Taking up S start st n
  taking_of S start st n L b a e =
      let f = fit_found up (in_effect up L st) n (join up L) b e in
      record { list = L; before = f.1.0; block = b; after = f.1.1; arena = a; joined = f.1.2; fit = f.0 }

  -- the plan, and its refusal
  module _ (S : Memory) (start : ℕ) (st : Strategy) (n owner : ℕ) (L : List Header) (b : Header) (a : IsArena S start L)
      (e : pick up (in_effect up L st) n None (join up L) ≡ Some b) where
    pub block_within : n ≤ b.size
    block_within = fits_size (in_effect up L st) n b (fit_found up (in_effect up L st) n (join up L) b e).0.fit

    pub block_ends : next b ≤ 0xFFFF
    block_ends = (let f = fit_found up (in_effect up L st) n (join up L) b e in
        block_fits S start L f.1.0 b f.1.1 a.0.1 f.1.2)

    module _ (c : Cut) (is : cut_list c ≡ cut_block st.fit n owner b) where
      abbrev pub found : Taking up S start st n
      found = taking_of S start st n L b a e

      fills : Fills b.segment (cut_list c) (next b)
      fills = let F : List Header → Type 0 = λ X. Fills b.segment X (next b) in
          subst F (sym is) (cut_fills st.fit n owner b block_within)

      -- a new header is one that the joined list doesn't have
      pub is_new : IsNew (join up L) c.second
      is_new =
          let r = join_fills up S start L a.0.1 in
          let F : List Header → Type 0 = λ X. Fills r.1 X r.0 in
          let G : List Header → Type 0 = λ X. IsNew X c.second in
          let f = subst F found.joined r.2 in
          subst G (sym found.joined) (new-cut found.before b found.after (next b) c.first c.second
          (fills_left r.1 r.0 found.before b found.after f) (fills_above (next b) r.0 found.after
          (fills_right r.1 r.0 found.before b found.after f)) fills)

      pub clear_changed : MaySplit S (join up L) c.second → IsClear S (with_cut found owner)
      clear_changed m =
          let F : List Header → Type 0 = λ X. IsClear S (found.before ++ (X ++ found.after)) in
          let G : List Header → Type 0 = λ X. MaySplit S X c.second in
          let H : List Header → Type 0 = λ X. IsClear S X in
          subst F is (clear-cut S found.before b found.after c.first c.second fills.0
          (subst H found.joined (join-clear S start L a)) (subst G found.joined m))

      pub unclear_changed : (MaySplit S (join up L) c.second → ⊥) → IsClear S (with_cut found owner) → ⊥
      unclear_changed m k =
          let F : List Header → Type 0 = λ X. IsClear S (found.before ++ (X ++ found.after)) in
          let G : List Header → Type 0 = λ X. MaySplit S X c.second in
          let H : List Header → Type 0 = λ X. IsNew X c.second in
          unclear-cut S found.before b found.after c.first c.second fills.0 (subst H found.joined is_new)
          (λ x. m (subst G (sym found.joined) x)) (subst F (sym is) k)

      -- the headers of the changed list are those of the joined list and the new one
      pub changed_either : (g : ℕ) → HasHeader (with_cut found owner) g → HasHeader (option_to_list c.second
          ++ join up L) g
      changed_either g w =
          let F : List Header → Type 0 = λ X. HasHeader (found.before ++ (X ++ found.after)) g in
          let G : List Header → Type 0 = λ X. HasHeader X g in
          elim (cut-either found.before b c.first c.second found.after fills.0 g (subst F (sym is) w)) [
            | inl l ↦ has_right (option_to_list c.second) (join up L) g (subst G (sym found.joined) l)
            | inr r ↦ has_left (option_to_list c.second) (join up L) g r
          ]

      pub changed_has : (g : ℕ) → HasHeader (option_to_list c.second ++ join up L) g →
          HasHeader (with_cut found owner) g
      changed_has g w =
          let F : List Header → Type 0 = λ X. HasHeader (found.before ++ (X ++ found.after)) g in
          let G : List Header → Type 0 = λ X. HasHeader X g in
          elim (has_either (option_to_list c.second) (join up L) g w) [
            | inl l ↦ subst F is (cut-new found.before c.first c.second found.after g l)
            | inr r ↦ subst F is (cut-has found.before b c.first c.second found.after fills.0 g
                (subst G found.joined r))
          ]

      pub planned : MaySplit S (join up L) c.second → (segment from : ℕ) → segment ≡ taken_segment st.fit n b + 1 →
          IsPlan up S start st n owner (record { cut = c; segment = segment; from = from })
      planned m segment from s = record { taking = found; cut_is = is; segment_is = s; clear = clear_changed m }

      pub unplanned : (MaySplit S (join up L) c.second → ⊥) → (t : Taking up S start st n) ×
          (IsClear S (with_cut t owner) → ⊥)
      unplanned m = (found, unclear_changed m)

  abbrev pub placing_of : (S : Memory) (start : ℕ) (st : Strategy) (n owner : ℕ) (c : Cut)
      (t : Taking up S start st n) → cut_list c ≡ cut_block st.fit n owner t.block → IsClear S (with_cut t owner) →
      Placing up S start (cut_list c)
  placing_of S start st n owner c t is k = record {
    list = t.list;
    before = t.before;
    block = t.block;
    after = t.after;
    arena = t.arena;
    joined = t.joined;
    fills = (let F : List Header → Type 0 = λ X. Fills t.block.segment X (next t.block) in
        subst F (sym is) (cut_fills st.fit n owner t.block (fits_size (in_effect up t.list st) n t.block t.fit.fit)));
    clear = (let F : List Header → Type 0 = λ X. IsClear S (t.before ++ (X ++ t.after)) in subst F (sym is) k);
  }

  pub placed : (S : Memory) (start : ℕ) (st : Strategy) (n owner : ℕ) (c : Cut) (t : Taking up S start st n) →
      cut_list c ≡ cut_block st.fit n owner t.block → IsClear S (with_cut t owner) → (T : Memory) →
      ((p : Placing up S start (cut_list c)) → Becomes S start (p.before ++ (cut_list c ++ p.after)) T) →
      Becomes S start (with_cut t owner) T
  placed S start st n owner c t is k T f = let F : List Header → Type 0 =
      λ X. Becomes S start (t.before ++ (X ++ t.after)) T in subst F is (f (placing_of S start st n owner c t is k))

  module _ (S U : Memory) (start : ℕ) (c : Cut) (p : Placing up S start (cut_list c)) (j : IsJoined up S start p.list U)
    where
      spelled : Spells U start (p.before ++ p.block ∷ p.after)
      spelled = let F : List Header → Type 0 = λ X. Spells U start X in subst F p.joined j.spells

      pub replaceable : (last : Bool) → last ≡ nat_eq (peek U (16 * c.first.segment)) 0x5A →
          IsReplaceable U start p.before (p.block ∷ []) p.after (cut_list c) last p.block.segment (next p.block)
      replaceable last e = record {
        nonempty = tt;
        spells = spelled;
        old_fills = (refl, refl);
        new_fills = p.fills;
        end = e ∙ ap (λ h. nat_eq (peek U (16 * h)) 0x5A) p.fills.0
            ∙ signature-last U p.block p.after (spells_end U start p.before p.block p.after spelled).1;
        clear = clear_map S U _ (place-shaped S U j.differs.shape) p.clear;
      }

      nonempty : (P : List Header) (d : Header) (Q : List Header) → IsNonEmpty (P ++ d ∷ Q)
      nonempty [] d Q = tt
      nonempty (q ∷ P) d Q = tt

      kept_has : (g : ℕ) → HasHeader (join up p.list) g → HasHeader (p.before ++ (cut_list c ++ p.after)) g
      kept_has g w =
          let F : List Header → Type 0 = λ X. HasHeader X g in
          elim (has_either p.before (p.block ∷ p.after) g (subst F p.joined w)) [
            | inl l ↦ has_left p.before (cut_list c ++ p.after) g l
            | inr r ↦ elim r [
              | inl q ↦ has_right p.before (cut_list c ++ p.after) g (inl (p.fills.0 ∙ q))
              | inr q ↦ has_right p.before (cut_list c ++ p.after) g (has_right (cut_list c) p.after g q)
            ]
          ]

      pub becomes : (T : Memory) → IsReplaced U start p.before p.after (cut_list c) T →
          Becomes S start (p.before ++ (cut_list c ++ p.after)) T
      becomes T r = record {
        clear = p.clear;
        chain = (nonempty p.before c.first (option_to_list c.second ++ p.after), r.spells);
        differs = record {
          shape = shaped-then S U T j.differs.shape r.differs.shape;
          kept = λ q ne. r.differs.kept q (λ h k w small e. ne h k (has_right p.before (cut_list c
              ++ p.after) h (has_left (cut_list c) p.after h w)) small (e ∙ place-shaped S U j.differs.shape _))
              ∙ j.differs.kept q (λ h k w. ne h k (kept_has h w));
        };
      }
