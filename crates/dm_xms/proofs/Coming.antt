-- A block that a gap holds comes, as long as a handle is free.
use Rattle.std.proofs.Common.{◌≡◌, ℕ, zero, suc, ◌+◌, ◌-◌, ◌<◌, ◌≤◌, ◌==◌, Bool, true, false, cond, List, [], ◌∷◌, Option, Some, None, length, get_or, set, position, refl, sym, ◌∙◌, ap, inl, inr, ◌⊎◌, arith}
use Rattle.std.specs.Prelude.{Result, Ok, Err, nat_le, max, is_some, is_none, count_by}
use Rattle.std.proofs.lemmas.Bool.{ne_eqb}
use Rattle.std.proofs.lemmas.Bool.Decides.{nat_tests}
use Rattle.std.proofs.lemmas.List.Quantifiers.{position-Some}
use Rattle.std.proofs.lemmas.List.Sums.{sum_by-cons, count_by-le-length}
use Rattle.std.proofs.lemmas.Option.{none-some}
use Rattle.dm_pool.specs.declared.extent.Extent.{Extent}
use Rattle.dm_pool.specs.Blocks.{Blocks, taken, placed}
use Rattle.dm_pool.specs.FreeList.{AreBased}
use Rattle.dm_pool.specs.Gaps.{Gap, gaps, lowest, largest, first_fit, first_empty, next_index}
use Rattle.dm_pool.proofs.Gaps.{fit_is_lowest}
use Rattle.dm_pool.proofs.Maximal.{gaps_are}
use Rattle.dm_pool.proofs.Told.{lowest_zero}
use Rattle.dm_xms.specs.declared.status.Status.{Status}
use Rattle.dm_xms.specs.declared.status.Status.TheVariants.{NoMemory, NoHandleLeft}
use Rattle.dm_xms.specs.declared.tables.Handle.{Handle}
use Rattle.dm_xms.specs.Tables.{Extended}
use Rattle.dm_xms.specs.Calls.{need, with_slot}
use Rattle.dm_xms.specs.Blocks.{largest_gap, leaving, allocate}
use Rattle.dm_xms.specs.Consistent.{handle_at, IsConsistent}
use Rattle.dm_xms.specs.Coming.{HasNewBlock, Gives}
use Rattle.dm_xms.specs.inner.Coming.{HasNumbers}
use Rattle.dm_xms.specs.inner.Laws.{BlockComes}
use Rattle.dm_xms.proofs.Consistent.{set_at, taken_new, not_live, allocated}

-- ---- where no gap holds a block, each gap is smaller

smaller : (g : Gap) (gs : List Gap) (u : ℕ) (b : Bool) → nat_le u g.size ≡ b → (first_fit gs u ≡ None →
    largest gs < u) → cond b (Some g.low) (first_fit gs u) ≡ None → max g.size (largest gs) < u
smaller g gs u true e rest none = absurd (none-some g.low (sym none))
smaller g gs u false e rest none = let le = rest none in let lt : g.size < u = grind (arith, nat_tests, e) in
    omega (arith, le, lt)

none_fits : (gs : List Gap) (u : ℕ) → 0 < u → first_fit gs u ≡ None → largest gs < u
none_fits [] u pos none = omega (arith, pos)
none_fits (g ∷ gs) u pos none = smaller g gs u (nat_le u g.size) refl (none_fits gs u pos) none

no_gap : (ps : List (Option Extent)) (n u : ℕ) → AreBased ps → lowest ps n u ≡ None → largest (gaps ps n) < u
no_gap ps n zero based none = absurd (none-some 0 (sym none ∙ lowest_zero ps n))
no_gap ps n (suc u) based none = none_fits (gaps ps n) (suc u) (omega arith) (fit_is_lowest ps n (suc u) (gaps ps n)
    (omega arith) (gaps_are ps n based) ∙ none)

-- ---- where a handle is free, so is a number

no_next : (o : Option ℕ) → next_index o ≡ None → o ≡ None
no_next None e = refl
no_next (Some i) e = absurd (none-some (suc i) (sym e))

all_used : (ps : List (Option Extent)) → first_empty ps ≡ None → count_by is_some ps ≡ length ps
all_used [] none = refl
all_used (None ∷ ps) none = absurd (none-some 0 (sym none))
all_used (Some b ∷ ps) none =
    let rest = all_used ps (no_next (first_empty ps) none) in omega (
      arith,
      sum_by-cons (λ (o : Option Extent). cond (is_some o) 1 0) (Some b) ps,
      rest,
    )

one_free : (hs : List (Option Handle)) (k : ℕ) → k < length hs → is_none (get_or hs k None) ≡ true →
    count_by is_some hs < length hs
one_free [] k lt none = absurd (omega (arith, lt))
one_free (None ∷ hs) k lt none = omega (
  arith,
  sum_by-cons (λ (o : Option Handle). cond (is_some o) 1 0) None hs,
  count_by-le-length is_some hs,
)
one_free (Some h ∷ hs) zero lt none = cc
one_free (Some h ∷ hs) (suc k) lt none = let rest = one_free hs k (omega (arith, lt)) none in
    omega (arith, sum_by-cons (λ (o : Option Handle). cond (is_some o) 1 0) (Some h) hs, rest)

has_number : (x : Extended) (k : ℕ) → IsConsistent x → HasNumbers x → position is_none x.xms.handles ≡ Some k →
    first_empty x.memory.blocks.places ≡ None → ⊥
has_number x k l few at none =
    let there = position-Some is_none x.xms.handles k None at in
    let used = one_free x.xms.handles k there.0 there.1 in
    omega (arith, few, all_used x.memory.blocks.places none, l.places, l.handles, used)

not_taken : (s : Blocks) (u : ℕ) (o p : Option ℕ) → placed s u o p ≡ None → (o ≡ None) ⊎ (p ≡ None)
not_taken s u None p e = inl refl
not_taken s u (Some i) None e = inr refl
not_taken s u (Some i) (Some b) e = absurd (none-some _ (sym e))

too_large : (x : Extended) (kib k : ℕ) → IsConsistent x → HasNumbers x → position is_none x.xms.handles ≡ Some k →
    taken x.memory.blocks kib ≡ None → largest_gap x < kib
too_large x kib k l few at none =
    let s = x.memory.blocks in
    elim (not_taken s kib (first_empty s.places) (lowest s.places s.units kib) none) [
      | inl full ↦ absurd (has_number x k l few at full)
      | inr away ↦ no_gap s.places s.units kib l.based away
    ]

-- ---- the handle that is given

slot_behind : (hs : List (Option Handle)) (k : ℕ) → cond ((k + 1) == 0) None (handle_at hs (k + 1 - 1)) ≡ handle_at hs k
slot_behind hs k =
    let back : k + 1 - 1 ≡ k = omega arith in
    ap (λ b. cond b None (handle_at hs (k + 1 - 1))) (ne_eqb (k + 1) 0 (λ e. omega (arith, e))) ∙ ap (handle_at hs) back

is_free : (o : Option Handle) → is_none o ≡ true → o ≡ None
is_free None e = refl
is_free (Some h) e = cc

given : (x : Extended) (kib k : ℕ) (p : ℕ × Blocks) → IsConsistent x → position is_none x.xms.handles ≡ Some k →
    taken x.memory.blocks kib ≡ Some p
    → HasNewBlock x (leaving x (with_slot x.xms (k + 1) (Some (record { block = p.0; kib = kib; locks = 0 }))) p.1)
    (k + 1) kib
given x kib k p l at is =
    let h : Handle = record { block = p.0; kib = kib; locks = 0 } in
    let there = position-Some is_none x.xms.handles k None at in
    let n = taken_new x.memory.blocks kib p.0 p.1 is in
    let back : k + 1 - 1 ≡ k = omega arith in
    record {
      block = p.0;
      unused = slot_behind x.xms.handles k ∙ is_free (handle_at x.xms.handles k) there.1;
      entry = slot_behind (set x.xms.handles (k + 1 - 1) (Some h)) k
          ∙ ap (λ j. handle_at (set x.xms.handles j (Some h)) k) back ∙ set_at x k (Some h) there.0;
      before = not_live x.memory.blocks p.0 n.free;
      live = (omega (arith, n.within, l.places), (n.place, n.at));
      bytes = n.bytes (omega (arith, n.within, l.places, l.contents));
      consistency = allocated x kib k p l at is;
    }

-- ---- the call

needed : {A : Type 0} (x : Extended) (kib : ℕ) (o : Option A) (e : Status) (f : A → Result (ℕ × Extended) Status) →
    (o ≡ None → Gives x kib (Err e)) → ((v : A) → o ≡ Some v → Gives x kib (f v)) → Gives x kib (need o e f)
needed x kib None e f p q = p refl
needed x kib (Some v) e f p q = q v refl

pub block_comes : BlockComes
unfolding allocate
block_comes x kib l few =
    needed x kib (position is_none x.xms.handles) NoHandleLeft _ (λ none. inl (refl, none)) (λ k at.
    needed x kib (taken x.memory.blocks kib) NoMemory _ (λ none. inr (refl, too_large x kib k l few at none))
    (λ p is. given x kib k p l at is))
