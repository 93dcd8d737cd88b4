-- Breakpoints stay distinct as they are set and cleared.
use Rattle.std.proofs.Common.{◌≡◌, ◌≢◌, ℕ, ◌+◌, ◌<◌, ◌≤◌, ◌==◌, Bool, true, false, cond, List, [], ◌∷◌, ◌++◌, Option, Some, None, length, get_or, refl, sym, ◌∙◌, ap, inl, inr, arith}
use Rattle.std.specs.Prelude.{◌&&◌, nat_lt, position, remove, is_some}
use Rattle.std.specs.List.{position_or_len}
use Rattle.std.specs.Cmp.Derive.{both_true}
use Rattle.std.proofs.Math.Bool.{true≢false}
use Rattle.std.proofs.lemmas.Bool.{cases_lt, eq-eqb, eqb-true, ltb-false, le-ltb}
use Rattle.std.proofs.lemmas.List.Edits.{get_or-remove_below, get_or-remove_above, length-remove}
use Rattle.std.proofs.lemmas.List.Quantifiers.{all_pairs_push, all_pairs_remove, position-Some}
use Rattle.std.proofs.lemmas.List.Sums.{fails_before_first, position_or_len_is}
use Rattle.std.proofs.lemmas.Option.{none-some}
use Rattle.dm_requests.specs.declared.commands.command.LogicalAddress.{LogicalAddress}
use Rattle.dm_machine.specs.declared.until.Breakpoint.{Breakpoint}
use Rattle.dm_debug.specs.Points.{point_at, is_point, is_set, cleared, AreDistinct}

-- ---- one breakpoint at an address

same_point : (a : LogicalAddress) (p : Breakpoint) → p ≡ point_at a → is_point a p ≡ true
same_point a p e = both_true (eq-eqb p.offset a.offset (ap (λ (q : Breakpoint). q.offset) e))
    (eq-eqb p.segment a.segment (ap (λ (q : Breakpoint). q.segment) e))

both_hold : (b c : Bool) → (b && c) ≡ true → (b ≡ true) × (c ≡ true)
both_hold true c e = (refl, e)
both_hold false c e = cc

point_is : (a : LogicalAddress) (p : Breakpoint) → is_point a p ≡ true → p ≡ point_at a
point_is a p e =
    let both = both_hold (p.offset == a.offset) (p.segment == a.segment) e in
    let offset = eqb-true p.offset a.offset both.0 in let segment = eqb-true p.segment a.segment both.1 in
    let one : ℕ → Breakpoint = λ n. record { segment = n; offset = p.offset } in let two : ℕ → Breakpoint =
    λ n. record { segment = a.segment; offset = n } in
    ap one segment ∙ ap two offset

-- ---- none is at the address

none_passes : (f : Breakpoint → Bool) (ps : List Breakpoint) (k : ℕ) (d : Breakpoint) → position f ps ≡ None →
    k < length ps → f (get_or ps k d) ≡ false
none_passes f ps k d e lt = fails_before_first f ps k d (within (nat_lt (position_or_len f ps) (length ps)) refl e)
  where
    within : (b : Bool) → nat_lt (position_or_len f ps) (length ps) ≡ b → cond b (Some (position_or_len f ps)) None
        ≡ None → k < position_or_len f ps
    within true g h = absurd (none-some (position_or_len f ps) (sym h))
    within false g h = omega (arith, ltb-false (position_or_len f ps) (length ps) g, lt)

all_fail : (f : Breakpoint → Bool) (ps : List Breakpoint) (d : Breakpoint) → ((k : ℕ) → k < length ps →
    f (get_or ps k d) ≡ false) → position f ps ≡ None
all_fail f ps d h =
    let long = position_or_len_is f ps (length ps) d (omega arith) h (λ lt. absurd (omega (arith, lt))) in
    ap (λ n. cond (nat_lt n (length ps)) (Some n) None) long ∙ ap (λ b. cond b (Some (length ps)) None)
    (le-ltb (length ps) (length ps) (omega arith))

-- ---- a breakpoint is set

pub pushed : (ps : List Breakpoint) (a : LogicalAddress) → AreDistinct ps → position (is_point a) ps ≡ None →
    AreDistinct (ps ++ point_at a ∷ [])
pushed ps a h e = all_pairs_push (λ p q. p ≢ q) ps (point_at a) h (λ k d lt same. true≢false
    (sym (same_point a (get_or ps k d) same) ∙ none_passes (is_point a) ps k d e lt))

-- ---- a breakpoint is cleared

pub removed : (ps : List Breakpoint) (i : ℕ) → i < length ps → AreDistinct ps → AreDistinct (remove ps i)
removed ps i lt h = all_pairs_remove (λ p q. p ≢ q) ps i lt h

module _ (ps : List Breakpoint) (a : LogicalAddress) (i : ℕ) (h : AreDistinct ps) (e : position (is_point a) ps
    ≡ Some i) where
  d : Breakpoint
  d = point_at a

  at : (i < length ps) × (is_point a (get_or ps i d) ≡ true) × ((k : ℕ) → k < i → is_point a (get_or ps k d) ≡ false)
  at = position-Some (is_point a) ps i d e

  later : (k : ℕ) (b : Bool) → is_point a (get_or ps k d) ≡ b → i < k → k < length ps → b ≡ false
  later k true f lt in' = absurd (h i k d lt in' (point_is a (get_or ps i d) at.1 ∙ sym (point_is a (get_or ps k d) f)))
  later k false f lt in' = refl

  fails : (k : ℕ) → k < length (remove ps i) → is_point a (get_or (remove ps i) k d) ≡ false
  fails k lt =
      let long = length-remove ps i at.0 in
      elim (cases_lt k i) [
        | inl below ↦ ap (is_point a) (get_or-remove_below ps i d k below at.0) ∙ at.2 k below
        | inr above ↦ ap (is_point a) (get_or-remove_above ps i d k above at.0)
            ∙ (let f = later (k + 1) (is_point a (get_or ps (k + 1) d)) refl (omega (arith, above)) (omega (
              arith,
              lt,
              long,
            )) in f)
      ]

  gone_at : is_set (remove ps i) a ≡ false
  gone_at = ap is_some (all_fail (is_point a) (remove ps i) d fails)

pub gone_from : (ps : List Breakpoint) (a : LogicalAddress) (o : Option ℕ) → AreDistinct ps →
    position (is_point a) ps ≡ o → is_set (cleared o ps) a ≡ false
gone_from ps a None h e = ap is_some e
gone_from ps a (Some i) h e = gone_at ps a i h e
