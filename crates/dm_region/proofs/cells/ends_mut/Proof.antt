-- `ends_mut` lends the first bytes of a slice and those from a later place on at once. Assumes `Logic`.
use mathlib.Core.Path.{◌≡◌, refl, sym, ap}
use Prim.Native.Nat.{ℕ, ◌+◌, ◌-◌, ◌*◌, ◌≤◌, ◌<◌, ◌^◌}
use native.Mathlib.Omega.{arith}
use native.Mathlib.Nat.{mul-one, mul-le-mul_right}
use mathlib.Core.List.{List, [], ◌∷◌}
use lib.ListN.{length, take, drop as drop_l, length-take, length-drop}
use seplogic.Ra.Ura.{Ura}
use mir.Syntax.{Body, named, w64, seq, assign, place, rv_opd, copy, return}
use mir.Val.{Val, vint, vstruct, vcons, vnil}
use base.Logic.{SProp, ent, id⊢}
use base.Fml.{Lft, GName, Share, ftrue, flft}
use prog.Memory.{Memory}
use prog.Routine.{Routine}
use prog.Wp.{Env, Calls, Loops, WpFn, Tables}
use types.Logic.{Logic}
use contract.Monad.{Fun}
use contract.Running.{tables, tables_of}
use sound.WpLaws.{WpFn-mono}
use types.Kit.{‵, raw, ◌⊛◌, some, later, await, pick, at_ret, ◌$◌, ◌∵◌, !, qed, move, keep, use1, use2, split, split3, join, fsplit, fjoin, fpack, feq_i, suffices, frame, done}
use types.Part.{whole, sub, agg}
use types.Run.{stop, fld, hop, from, addr, of_opd, bin, and_then, no_more, first, blocks, exec, returns, enter}
use types.ByLocal.{alloc_all, pass_all, free_all, look_at, look_in_at, get, get_in, sets, sets_last, env}
use denote.Exit.{yes, no}
use denote.RattleType.{RattleType, Valss, owns}
use denote.Array.{Array}
use denote.Builtin.{u8, usize}
use denote.Follow.{both_by, follows_both}
use denote.Plain.{uint_vals, uint_Tells}
use denote.Ref.{MutBor}
use denote.Signature.{plain, mut_slice_of}
use denote.Slice.{MutSlice, Room, slice_val, mut_slice_vals, mut_slice_Tells}
use denote.Steps.{nothing}
use denote.Struct.Struct.{within as laid_within}
use denote.Struct.Tuple.{tuple_type}
use denote.Struct.Declared.{shape}
use denote.Triple.Clauses.{Clauses, closing}
use denote.Triple.Entry.{on_entry}
use denote.Triple.Spec.{Meets, triple_of}
use denote.Triple.Table.{entered}
use denote.Triple.Walked.{says, needs, Stays, stay_dropped, walk_of, ends_at, walked, Goes-dropped, Goes-spent_slice, walk_Meets}
use Rattle.std.specs.List.{refill}
use Rattle.dm_region.specs.Ends.{with_ends}
use Rattle.dm_region.proofs.Loans.{EndsLent, lends_ends}
use Rattle.dm_region.specs.contracts.cells.ends_mut as F
use Rattle.dm_region.specs.contracts.cells.ends_mut.Key.{name as #self}
use Rattle.dm_region.proofs.cells.ends_mut.Statement as stated
use Rattle.dm_region.proofs.cells.ends_mut.Code as code

abbrev Halves : Lft → List RattleType
Halves κ = MutSlice (named 0) κ u8 ∷ MutSlice (named 0) κ u8 ∷ []

abbrev stayed : Stays F.ended.signature.params F.ended.kept
stayed = (
  stay_dropped (mut_slice_of (0 ∷ []) tt (plain (λ _. u8))) no,
  (
    stay_dropped (plain (λ _. usize)) yes,
    (stay_dropped (plain (λ _. usize)) yes, tt),
  ),
)

abbrev Asks : List ℕ → ℕ → ℕ → Type 0
Asks xs len other = (len ≤ other) × (other ≤ length xs)

abbrev Written : List ℕ → ℕ → ℕ → List ℕ → List ℕ → List ℕ
Written xs len other ws vs = with_ends xs len other (refill len (take len xs) ws)
    (refill (length xs - other) (drop_l other xs) vs)

abbrev rest : Body
rest = seq (assign (place 0 []) (rv_opd (copy (place 6 [])))) return

module _ {M : Type 1} {𝓤 : Ura M} (𝓛 : Logic 𝓤) (at_mem : Memory → SProp 𝓤) (run : Routine → Fun 𝓤) where
  open 𝓛 use {H}

  abbrev clauses : Clauses 𝓤 F.ended
  clauses = F.clauses 𝓛 at_mem run

  module _ (C : Calls 𝓤 H) (Λ : Loops 𝓤 H) (κ : Lft) (q : Share) (b o : ℕ) (γ : GName) (xs : List ℕ)
      (len other : ℕ) where
    abbrev self : MutBor (List ℕ)
    self = record { ref_ptr = (b, o); ghost_name = γ; now = xs }

    abbrev bound : (walk_of 𝓛 F.ended stayed clauses).Ghost
    bound = (
      (
        (κ, tt),
        (q, tt),
        tt,
        (self, (len, (other, tt))),
        (
          mut_slice_vals self,
          (vint w64 len ∷ [], (vint w64 other ∷ [], tt)),
        ),
      ),
      tt,
    )

    abbrev Post : Val → SProp 𝓤
    Post = (walk_of 𝓛 F.ended stayed clauses).post bound

    walk : len < 2 ^ 64 → other < 2 ^ 64 → Room u8 (length xs) → Asks xs len other
        → ent 𝓤 (on_entry 𝓛 F.ended.signature (κ, tt) (q, tt) (self, (len, (other, tt))) (
          mut_slice_vals self,
          (vint w64 len ∷ [], (vint w64 other ∷ [], tt)),
        )) (WpFn 𝓤 H C Λ code.function (slice_val (b, o) (length xs)
        ∷ vint w64 len ∷ vint w64 other ∷ []) Post)
    unfolding both_by
    walk fl fo rm asked =
        let n : ℕ = length xs in let m : ℕ = n - other in
        let apart = asked.0 in let within = asked.1 in
        let low : List ℕ = take len xs in let high : List ℕ = drop_l other xs in
        let ll : length low ≡ len = omega (arith, length-take len xs) in
        let lh : length high ≡ m = length-drop other xs in
        let end : ℕ = other * 1 + o in let on : end ≡ other + o = ap (λ k. k + o) (mul-one other) in
        let fn : n < 2 ^ 64 = rm.0 in
        let fit : n * 1 < 2 ^ 63 = rm.1 in
        let b₁ : length low * 1 ≤ n * 1 = mul-le-mul_right 1 (omega arith) in
        let b₂ : length high * 1 ≤ n * 1 = mul-le-mul_right 1 (omega arith) in
        let fr : m < 2 ^ 64 = omega arith in
        let one : GName × GName → MutBor (List ℕ) = λ δ. record { ref_ptr = (b, o); ghost_name = δ.0; now = low } in
        let two : GName × GName → MutBor (List ℕ) = λ δ. record { ref_ptr = (b, end); ghost_name = δ.1; now = high } in
        let val : ℕ → ℕ → ℕ → Val = λ p i j. vstruct (vcons (slice_val (b, o) i) (vcons (slice_val (b, p) j) vnil)) in
        let v = val (other + o) len m in
        qed 𝓛 ((‵ (flft κ q) ⊛ ‵ ftrue) ∷ ‵ (owns (MutSlice (named 0) κ u8 ∷ usize ∷ usize ∷ []) (
          self,
          (len, (other, tt)),
        ) (mut_slice_vals self, (vint w64 len ∷ [], (vint w64 other ∷ [], tt))))
        ∷ []) ∵ enter ! C Λ code.function (slice_val (b, o) n ∷ vint w64 len ∷ vint w64 other ∷ []) _ $
        alloc_all ! (λ l. pass_all ! refl (
          (tt, (tt, (record { fits = fn }, tt))),
          (
            (tt, record { fits = fl }),
            ((tt, record { fits = fo }), tt),
          ),
        ) $
        let En : Env 𝓤 H = env code.function.locals l in
        sets ! (of_opd ! (get_in ! (fld ! refl (stop !)) (sub ! 1 refl (whole !)))) refl (tt, record { fits = fn }) $
        sets ! (addr ! (from ! (fld ! refl (hop ! (look_in_at ! 1 (sub ! 0 refl (whole !))) (stop !))))) refl (tt, tt) $
        first ! $ blocks ! $
        sets ! (agg ! (and_then ! (get ! refl) (and_then ! (get ! refl) (no_more !)))) refl (
          tt,
          (tt, (record { fits = fl }, tt)),
        ) $
        sets ! (bin ! (get ! refl) (get ! refl) tt) refl (tt, tt) $
        sets ! (bin ! (get ! refl) (get ! refl) within) refl (tt, record { fits = fr }) $
        sets ! (agg ! (and_then ! (get ! refl) (and_then ! (get ! refl) (no_more !)))) refl (
          tt,
          (tt, (record { fits = fr }, tt)),
        ) $
        sets_last ! (agg ! (and_then ! (get ! refl) (and_then ! (get ! refl) (no_more !)))) refl (
          tt,
          ((tt, (record { fits = fl }, tt)), ((tt, (record { fits = fr }, tt)), tt)),
        ) $
        exec ! C Λ En rest (at_ret En Post) $
        sets ! (of_opd ! (get ! refl)) refl (
          tt,
          (
            (tt, (record { fits = fl }, tt)),
            (
              (tt, (record { fits = fr }, tt)),
              tt,
            ),
          ),
        ) $
        move ! (1 ∷ []) $ fsplit ! $ move ! (2 ∷ []) $ split ! $ move ! (2 ∷ 0 ∷ []) $
        use2 𝓛 (later (some (λ (δ : GName × GName). raw (EndsLent 𝓛 u8 (named 0) κ q b o γ xs len other apart within
        δ))))
        (lends_ends 𝓛 u8 (named 0) κ q b o γ xs len other apart within (omega arith, omega arith) (
          omega arith,
          omega arith,
        ) (mut_slice_vals self)) $ await ! tt $ pick ! (λ δ.
        use1 𝓛 (‵ ((MutSlice (named 0) κ u8).own_val (one δ) (slice_val (b, o) (length low) ∷ [])) ⊛ ‵ ((MutSlice (named 0) κ u8).own_val (two δ) (slice_val (b, end) (length high) ∷ [])) ⊛ ‵ (flft κ q)
        ⊛ ‵ (follows_both (Array u8 0) (Array u8 0) (Array u8 0) γ δ.0 δ.1 (Written xs len other)))
        (id⊢ 𝓤 _) $ split3 ! $
        nothing ! $ move ! (2 ∷ 0 ∷ []) $ fjoin ! $ move ! (1 ∷ 0 ∷ []) $ fjoin ! $
        feq_i ! (List Val) (v ∷ []) (val end (length low) (length high) ∷ []) (λ k. val (sym on k) (sym ll k) (sym lh k)
        ∷ []) $ fjoin ! $
        fpack ! (Valss (Halves κ)) (laid_within (shape (tuple_type (Halves κ))) (one δ, (two δ, tt)) (v
        ∷ [])) (slice_val (b, o) (length low) ∷ [], (slice_val (b, end) (length high) ∷ [], tt)) $
        move ! (1 ∷ []) $ split ! $ move ! (2 ∷ 0 ∷ 1 ∷ []) $
        returns ! (look_at ! 0 refl) $ free_all ! refl $ keep ! (0 ∷ 1 ∷ 2 ∷ []) $
        suffices ! _ (ends_at 𝓛 F.ended stayed clauses bound v (one δ, two δ) (tt, (tt, (tt, tt))) (
          tt,
          (tt, (tt, tt)),
        )) $
        nothing ! $ nothing ! $ fjoin ! $ nothing ! $ fjoin ! $ nothing ! $ fjoin ! $ join ! $ nothing ! $ move ! (2 ∷ 0
        ∷ []) $ join ! $ join ! $ frame ! $ says ! (refl, refl) $ done !))

  meets : (𝓣 : Tables 𝓤 H) → Meets 𝓛 F.ended.signature (WpFn 𝓤 H 𝓣.C 𝓣.Λ code.function) (closing 𝓛 F.ended clauses)
  meets 𝓣 =
      let goes = Goes-dropped 𝓛 1 (plain (λ _. usize)) yes (λ κs x f. refl) in
      walk_Meets 𝓛 F.ended stayed (
        Goes-spent_slice 𝓛 1 (0 ∷ []) tt (plain (λ _. u8)),
        (goes, (goes, tt)),
      ) clauses (WpFn 𝓤 H 𝓣.C 𝓣.Λ code.function) (WpFn-mono 𝓤 H 𝓛.laws 𝓣 code.function)
      (walked 𝓛 F.ended stayed clauses (WpFn 𝓤 H 𝓣.C 𝓣.Λ code.function) (λ κs. (
        mut_slice_vals,
        (uint_vals w64, (uint_vals w64, tt)),
      )) (λ κs. (
        mut_slice_Tells (named 0) κs.0 u8,
        (uint_Tells w64, (uint_Tells w64, tt)),
      ))
      (λ κs qs bounds a g are. needs 𝓤 (Asks a.0.now a.1.0 a.1.1.0) _ (walk 𝓣.C 𝓣.Λ κs.0 qs.0 a.0.ref_ptr.0
      a.0.ref_ptr.1 a.0.ghost_name a.0.now a.1.0 a.1.1.0 are.1.0.1 are.1.1.0.1 are.0.0.1)))

pub ends_mut_spec : {M : Type 1} → stated.statement M
unfolding tables_of
ends_mut_spec 𝓤 𝓛 𝓜 𝓡 wired =
    let 𝓣 : Tables 𝓤 𝓛.H = tables_of 𝓤 𝓛.H 𝓜 (tables 𝓤 𝓛.H 𝓜 𝓡 𝓡.env) in
    entered 𝓤 𝓛.H (triple_of 𝓛 F.ended.signature (F.spec 𝓛 𝓜.mem 𝓡.returns)) 𝓣.C 𝓣.Λ #self code.function
    (code.unfolded 𝓤 𝓛.H 𝓜 𝓡 wired)
    (meets 𝓛 𝓜.mem 𝓡.returns 𝓣)
