-- A walk over the gaps, as the free bytes tell them.
use Rattle.std.proofs.Common.{◌≡◌, ℕ, ◌+◌, ◌-◌, ◌*◌, ◌/◌, ◌^◌, ◌<◌, ◌≤◌, List, [], ◌∷◌, Option, Some, refl, sym, ap, ◌∙◌, subst, inl, inr, ◌⊎◌, arith}
use Rattle.std.specs.Prelude.{if◌then◌else◌}
use Rattle.std.proofs.Math.Nat.{div-le_self}
use Rattle.std.proofs.lemmas.Bool.{le-leb}
use Rattle.std.proofs.lemmas.List.Sums.{sum_by-cons}
use Rattle.dm_pool.specs.declared.extent.Extent.{Extent}
use Rattle.dm_pool.specs.Gaps.{Gap, first_fit, gaps, free_units, count_fitting}
use Rattle.dm_pool.specs.inner.Gaps.{AreGaps}
use Rattle.dm_pool.specs.FreeList.{double_word, AreBased, Spells}
use Rattle.dm_pool.specs.inner.FreeList.{Tells}
use Rattle.dm_pool.proofs.Gaps.{past}
use Rattle.dm_pool.proofs.Maximal.{gaps_are, gaps_are_one}

-- the gap at `at` and those behind it are still to be met
pub record Passing (places : List (Option Extent)) (units : ℕ) (bytes : List ℕ) (at : ℕ) : Type 0 where
  pub rest : List Gap
  pub from : ℕ
  pub gaps : AreGaps places units from rest
  pub told : Spells bytes at rest

abbrev pub sets_out : (places : List (Option Extent)) (units : ℕ) (bytes : List ℕ) (at : ℕ) →
    Tells places units 0 at bytes → Passing places units bytes at
sets_out places units bytes at t = record { rest = t.listed; from = 0; gaps = t.gaps; told = t.told }

-- all of them are the gaps
pub tells_gaps : (places : List (Option Extent)) (units : ℕ) (bytes : List ℕ) (at : ℕ) → AreBased places →
    (t : Tells places units 0 at bytes) → t.listed ≡ gaps places units
tells_gaps places units bytes at based t = gaps_are_one places units 0 t.listed (gaps places units) t.gaps
    (gaps_are places units based)

-- the gap at `at`, and those behind it
pub record Meets (places : List (Option Extent)) (units : ℕ) (bytes : List ℕ) (at : ℕ) (rest : List Gap) : Type 0 where
  pub gap : Gap
  pub behind : List Gap
  pub splits : rest ≡ gap ∷ behind
  pub low : gap.low ≡ at
  pub size : double_word bytes (at * 1024) ≡ gap.size
  pub some : 0 < gap.size
  pub room : gap.low + gap.size ≤ units
  pub gaps : AreGaps places units (gap.low + gap.size) behind
  pub told : Spells bytes (double_word bytes (at * 1024 + 4)) behind
  pub rising : (double_word bytes (at * 1024 + 4) ≡ 0xFFFFFFFF) ⊎ (at < double_word bytes (at * 1024 + 4))

after_gap : (places : List (Option Extent)) (units from : ℕ) (bytes : List ℕ) (low at : ℕ) (gs : List Gap) →
    AreGaps places units from gs → low < from → Spells bytes at gs → (at ≡ 0xFFFFFFFF) ⊎ (low < at)
after_gap places units from bytes low at [] are h told = inl told
after_gap places units from bytes low at (g ∷ gs) are h told = inr (omega (arith, told.0, are.0, h))

meets_gap : (places : List (Option Extent)) (units from : ℕ) (bytes : List ℕ) (at : ℕ) (rest : List Gap) →
    AreGaps places units from rest → Spells bytes at rest → ¬ (at ≡ 0xFFFFFFFF) → Meets places units bytes at rest
meets_gap places units from bytes at [] are told ne = absurd (ne told)
meets_gap places units from bytes at (g ∷ gs) are told ne =
    let low : g.low ≡ at = sym told.0 in
    let link : double_word bytes (at * 1024 + 4) ≡ double_word bytes (g.low * 1024 + 4) =
    ap (λ n. double_word bytes (n * 1024 + 4)) (sym low) in
    let behind : Spells bytes (double_word bytes (at * 1024 + 4)) gs =
    subst (λ n. Spells bytes n gs) (sym link) told.2 in
    let some = are.2 in
    record {
      gap = g;
      behind = gs;
      splits = refl;
      low = low;
      size = ap (λ n. double_word bytes (n * 1024)) (sym low) ∙ told.1;
      some = some;
      room = are.4;
      gaps = are.6;
      told = behind;
      rising = after_gap places units (g.low + g.size) bytes at (double_word bytes (at * 1024 + 4)) gs are.6
          (omega (arith, low, some)) behind;
    }

no_gap : (places : List (Option Extent)) (units from : ℕ) (bytes : List ℕ) (at : ℕ) (rest : List Gap) →
    AreGaps places units from rest → Spells bytes at rest → at ≡ 0xFFFFFFFF → units < 2 ^ 31 → rest ≡ []
no_gap places units from bytes at [] are told e small = refl
no_gap places units from bytes at (g ∷ gs) are told e small = let some = are.2 in let room =
    are.4 in absurd (omega (arith, told.0, some, room, e, small))

module _ (places : List (Option Extent)) (units : ℕ) (bytes : List ℕ) (at : ℕ) (p : Passing places units bytes at) where
  pub meets : ¬ (at ≡ 0xFFFFFFFF) → Meets places units bytes at p.rest
  meets ne = meets_gap places units p.from bytes at p.rest p.gaps p.told ne

  pub none_left : at ≡ 0xFFFFFFFF → units < 2 ^ 31 → p.rest ≡ []
  none_left e small = no_gap places units p.from bytes at p.rest p.gaps p.told e small

  pub gap_within : ¬ (at ≡ 0xFFFFFFFF) → at < units
  gap_within ne = let m = meets ne in omega (arith, m.low, m.some, m.room)

  pub gap_falls : ¬ (at ≡ 0xFFFFFFFF) → units < 2 ^ 31 → units - double_word bytes (at * 1024 + 4) < units - at
  gap_falls ne small = let h = gap_within ne in elim (meets ne).rising [
    | inl e ↦ omega (arith, e, h, small)
    | inr r ↦
        omega (arith, r, h)
  ]

-- on to the gaps behind
abbrev pub goes_on : (places : List (Option Extent)) (units : ℕ) (bytes : List ℕ) (at next : ℕ) (rest : List Gap) →
    next ≡ double_word bytes (at * 1024 + 4) → Meets places units bytes at rest → Passing places units bytes next
goes_on places units bytes at next rest e m = record {
  rest = m.behind;
  from = m.gap.low + m.gap.size;
  gaps = m.gaps;
  told = subst (λ n. Spells bytes n m.behind) (sym e) m.told;
}

-- the first gap that holds so many units
pub fit_here : (gs : List Gap) (g : Gap) (behind : List Gap) (wanted : ℕ) → gs ≡ g ∷ behind → wanted ≤ g.size →
    first_fit gs wanted ≡ Some g.low
fit_here gs g behind wanted e h = ap (λ l. first_fit l wanted) e ∙ ap (λ c. if c then Some g.low else
    first_fit behind wanted) (le-leb wanted g.size h)

pub fit_behind : (gs : List Gap) (g : Gap) (behind : List Gap) (wanted : ℕ) → gs ≡ g ∷ behind → g.size < wanted →
    first_fit gs wanted ≡ first_fit behind wanted
fit_behind gs g behind wanted e h = ap (λ l. first_fit l wanted) e ∙ ap (λ c. if c then Some g.low else
    first_fit behind wanted) (past wanted g.size h)

-- the gaps have no more units than the pool
pub free_within : (places : List (Option Extent)) (units from : ℕ) (gs : List Gap) → from ≤ units →
    AreGaps places units from gs → from + free_units gs ≤ units
free_within places units from [] le are = omega (arith, le)
free_within places units from (g ∷ gs) le are =
    let low = are.0 in let rest = free_within places units (g.low + g.size) gs are.4 are.6 in let sum =
    sum_by-cons (λ (r : Gap). r.size) g gs in
    omega (arith, low, rest, sum)

pub free_split : (gs : List Gap) (g : Gap) (behind : List Gap) → gs ≡ g ∷ behind →
    free_units gs ≡ g.size + free_units behind
free_split gs g behind e = ap free_units e ∙ sum_by-cons (λ (r : Gap). r.size) g behind

pub fitting_split : (u : ℕ) (gs : List Gap) (g : Gap) (behind : List Gap) → gs ≡ g ∷ behind →
    count_fitting u gs ≡ g.size / u + count_fitting u behind
fitting_split u gs g behind e = ap (count_fitting u) e ∙ sum_by-cons (λ (r : Gap). r.size / u) g behind

pub fitting_least : (u : ℕ) (gs : List Gap) → 0 < u → count_fitting u gs ≤ free_units gs
fitting_least u [] pos = omega arith
fitting_least u (g ∷ gs) pos =
    let one = sum_by-cons (λ (r : Gap). r.size) g gs in let other = sum_by-cons (λ (r : Gap). r.size / u) g gs in
    let rest = fitting_least u gs pos in let less = div-le_self g.size u in
    omega (arith, one, other, rest, less)
