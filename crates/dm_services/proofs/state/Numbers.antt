-- There is a number for each page and each block that may come: all blocks are pages, 512 at most, or those of handles
-- of extended memory, 64 at most.
use Rattle.std.proofs.Common.{◌≡◌, ◌≢◌, ℕ, zero, suc, ◌+◌, ◌-◌, ◌<◌, ◌≤◌, cond, List, [], ◌∷◌, Option, Some, None, length, get_or, set, refl, sym, ◌∙◌, ap, inl, inr, arith}
use Rattle.std.specs.Prelude.{nat_lt, is_some, count_by}
use Rattle.std.proofs.lemmas.Bool.{cases_lt, lt-ltb, le-ltb}
use Rattle.std.proofs.lemmas.List.{get_or-set_other}
use Rattle.std.proofs.lemmas.List.Sums.{sum_by-cons, count_by-le-length}
use Rattle.std.proofs.lemmas.Option.{none-some, same_Some}
use Rattle.dm_pool.specs.declared.extent.Extent.{Extent}
use Rattle.dm_pool.proofs.WrittenGaps.{below_length}
use Rattle.dm_ems.specs.declared.tables.Page.{Page}
use Rattle.dm_ems.specs.Tables.{expanded}
use Rattle.dm_ems.specs.inner.Consistent as expanded_memory
use Rattle.dm_ems.specs.Consistent.{block_at, IsOwned}
use Rattle.dm_xms.specs.declared.tables.Handle.{Handle}
use Rattle.dm_xms.specs.Consistent.{handle_at}
use Rattle.dm_xms.specs.Tables.{extended}
use Rattle.dm_xms.specs.inner.Coming as extended_memory
use Rattle.dm_services.specs.state.State.{State, IsHandled, AreConsistent}

-- ---- blocks whose numbers are n numbers are n at most

one : Option Extent → ℕ
one o = cond (is_some o) 1 0

counted : (p : Option Extent) (ps : List (Option Extent)) → count_by is_some (p ∷ ps) ≡ one p + count_by is_some ps
unfolding one
counted p ps = sum_by-cons (λ (o : Option Extent). cond (is_some o) 1 0) p ps

one_most : (p : Option Extent) → one p ≤ 1
unfolding one
one_most None = omega arith
one_most (Some b) = omega arith

nothing_counts : one None ≡ 0
unfolding one
nothing_counts = refl

one_gone : (ps : List (Option Extent)) (i : ℕ) → count_by is_some ps ≤ count_by is_some (set ps i None) + 1
one_gone [] i = omega arith
one_gone (p ∷ ps) zero = omega (arith, counted p ps, counted None ps, one_most p, nothing_counts)
one_gone (p ∷ ps) (suc i) = let rest = one_gone ps i in omega (arith, counted p ps, counted p (set ps i None), rest)

none_there : (ps : List (Option Extent)) → ((i : ℕ) (b : Extent) → get_or ps i None ≡ Some b → ⊥) →
    count_by is_some ps ≡ 0
none_there [] h = refl
none_there (None ∷ ps) h = let rest = none_there ps (λ i. h (suc i)) in omega (
  arith,
  counted None ps,
  nothing_counts,
  rest,
)
none_there (Some c ∷ ps) h = absurd (h 0 c refl)

gone : (ps : List (Option Extent)) (i : ℕ) → get_or (set ps i None) i None ≡ None
gone [] i = refl
gone (p ∷ ps) zero = refl
gone (p ∷ ps) (suc i) = gone ps i

covered : (n : ℕ) (at : ℕ → ℕ) (ps : List (Option Extent)) → ((i : ℕ) (b : Extent) → get_or ps i None ≡ Some b →
    (k : ℕ) × (k < n) × (at k ≡ i)) → count_by is_some ps ≤ n
covered zero at ps h = omega (arith, none_there ps (λ i b e. let lt = (h i b e).1 in omega (arith, lt)))
covered (suc m) at ps h =
    let less : List (Option Extent) = set ps (at m) None in
    let other : (i : ℕ) (b : Extent) → get_or less i None ≡ Some b → i ≢ at m =
    λ i b e f. none-some b (sym (gone ps (at m)) ∙ ap (λ k. get_or less k None) (sym f) ∙ e) in
    let rest = covered m at less (λ i b e.
    let ne = other i b e in
    let k = h i b (sym (get_or-set_other ps (at m) i None None ne) ∙ e) in
    let below : k.0 < m = elim (cases_lt k.0 m) [
      | inl lt ↦ lt
      | inr le ↦ let lt = k.1 in let last : k.0 ≡ m =
          omega (arith, le, lt) in absurd (ne (sym k.2 ∙ ap at last))
    ] in
    (k.0, below, k.2)) in
    omega (arith, one_gone ps (at m), rest)

-- ---- the blocks of pages, and behind them those of handles

used : List (Option Handle) → List ℕ
used [] = []
used (None ∷ hs) = used hs
used (Some h ∷ hs) = h.block ∷ used hs

used_length : (hs : List (Option Handle)) → length (used hs) ≡ count_by is_some hs
unfolding used
used_length [] = refl
used_length (None ∷ hs) = let rest = used_length hs in omega (
  arith,
  sum_by-cons (λ (o : Option Handle). cond (is_some o) 1 0) None hs,
  rest,
)
used_length (Some h ∷ hs) = let rest = used_length hs in omega (
  arith,
  sum_by-cons (λ (o : Option Handle). cond (is_some o) 1 0) (Some h) hs,
  rest,
)

in_used : (hs : List (Option Handle)) (k : ℕ) (h : Handle) → handle_at hs k ≡ Some h → (j : ℕ) ×
    (j < length (used hs)) × (get_or (used hs) j 0 ≡ h.block)
unfolding used
in_used [] k h e = absurd (none-some h e)
in_used (None ∷ hs) zero h e = absurd (none-some h e)
in_used (None ∷ hs) (suc k) h e = in_used hs k h e
in_used (Some g ∷ hs) zero h e = (0, omega arith, ap (λ (s : Handle). s.block) (same_Some g h e))
in_used (Some g ∷ hs) (suc k) h e = let r = in_used hs k h e in let lt = r.1 in (suc r.0, omega (arith, lt), r.2)

abbrev owner : List Page → List (Option Handle) → ℕ → ℕ
owner ps hs k = cond (nat_lt k (length ps)) (block_at ps k) (get_or (used hs) (k - length ps) 0)

page_owner : (ps : List Page) (hs : List (Option Handle)) (b : ℕ) → IsOwned ps b → (k : ℕ) ×
    (k < length ps + length (used hs)) × (owner ps hs k ≡ b)
page_owner ps hs b o = let lt = o.1 in (
  o.0,
  omega (arith, lt),
  ap (λ t. cond t (block_at ps o.0) (get_or (used hs) (o.0 - length ps) 0)) (lt-ltb o.0 (length ps) lt) ∙ o.2,
)

handle_owner : (ps : List Page) (hs : List (Option Handle)) (b : ℕ) → IsHandled hs b → (k : ℕ) ×
    (k < length ps + length (used hs)) × (owner ps hs k ≡ b)
handle_owner ps hs b h =
    let r = in_used hs h.0 h.1 h.2 in
    let lt = r.1 in
    let k = length ps + r.0 in
    let back : k - length ps ≡ r.0 = omega arith in (
      k,
      omega (arith, lt),
      ap (λ t. cond t (block_at ps k) (get_or (used hs) (k - length ps) 0)) (le-ltb k (length ps) (omega arith))
          ∙ ap (λ j. get_or (used hs) j 0) back ∙ r.2 ∙ h.3,
    )

-- there are as many blocks as pages and handles in use at most
all_blocks : (s : State) → AreConsistent s → count_by is_some s.memory.blocks.places ≤ length s.ems.pages
    + count_by is_some s.xms.handles
all_blocks s l =
    let most = covered (length s.ems.pages + length (used s.xms.handles)) (owner s.ems.pages s.xms.handles)
    s.memory.blocks.places (λ i b e.
    let short : i < 576 = omega (arith, below_length s.memory.blocks.places i b e, l.ems.places) in
    elim (l.whole i (short, (b, e))) [
      | inl o ↦ page_owner s.ems.pages s.xms.handles i o
      | inr h ↦ handle_owner s.ems.pages s.xms.handles i h
    ]) in
    omega (arith, most, used_length s.xms.handles)

pub page_numbers : (s : State) → AreConsistent s → expanded_memory.HasNumbers (expanded s.ems s.memory)
page_numbers s l = omega (arith, all_blocks s l, count_by-le-length is_some s.xms.handles, l.xms.handles)

pub block_numbers : (s : State) → AreConsistent s → extended_memory.HasNumbers (extended s.xms s.memory)
block_numbers s l = omega (arith, all_blocks s l, l.ems.few, l.ems.total)
