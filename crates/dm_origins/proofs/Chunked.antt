-- Paragraphs whose origins are kept in chunks.
use Rattle.std.proofs.Common.{◌≡◌, ℕ, ◌+◌, ◌*◌, ◌/◌, ◌<◌, ◌≤◌, Bool, true, false, List, length, get_or, Option, Some, None, refl, sym, ◌∙◌, ap, ap₂, subst, arith, inl, inr}
use Rattle.std.specs.Prelude.{if◌then◌else◌, replicate}
use Rattle.std.specs.Option.{option_or}
use Rattle.std.proofs.Math.ListN.{set, get_or-eq_default}
use Rattle.std.proofs.lemmas.Bool.{cases_lt}
use Rattle.std.proofs.lemmas.Bool.Decides.{nat_tests}
use Rattle.std.proofs.lemmas.List.{ext_get_or, get_or-replicate, length-replicate, get_or-set_same, get_or-set_other}
use Rattle.dm_findings.specs.declared.finding.Origin.{Origin}
use Rattle.dm_origins.specs.inner.Chunks.{freed_by}
use Rattle.dm_origins.specs.inner.Freed.{within, Frees}
use Rattle.dm_origins.proofs.Each.{length_each, at_each}

abbrev Step : Type 0
Step = Option Origin

-- ---- what both lists together say

pub length-freed_by : (ms ps : List Step) → length (freed_by ms ps) ≡ length ps
unfolding freed_by
length-freed_by ms ps = length_each _ 0 ps

pub at-freed_by : (ms ps : List Step) (p : ℕ) → p < length ps → get_or (freed_by ms ps) p None
    ≡ option_or (get_or ms (p / 256) None) (get_or ps p None)
unfolding freed_by
at-freed_by ms ps p less = at_each (λ (q : ℕ) (x : Step). option_or (get_or ms (q / 256) None) x) ps p None less

none_at : (n i : ℕ) → get_or (replicate {A = Step} n None) i None ≡ None
none_at n i = elim (cases_lt i n) [
  | inl less ↦ get_or-replicate n i None None less
  | inr over ↦ (let short : length (replicate {A = Step} n None) ≤ i =
      omega (arith, length-replicate {A = Step} n None) in get_or-eq_default (replicate {A = Step} n None) None short)
]

pub none_freed : (m n : ℕ) → freed_by (replicate m None) (replicate n None) ≡ replicate n None
none_freed m n =
    let ms : List Step = replicate m None in
    let ps : List Step = replicate n None in
    ext_get_or None (freed_by ms ps) ps (length-freed_by ms ps) (λ p less.
    (let inside : p < length ps = omega (arith, less, length-freed_by ms ps) in
    at-freed_by ms ps p inside ∙ ap₂ (λ (x y : Step). option_or x y) (none_at m (p / 256)) (none_at n p)
    ∙ sym (none_at n p)))

-- ---- the paragraphs of a chunk

pub in_chunk : (c first end p : ℕ) → c * 256 ≤ first → end ≤ c * 256 + 256 → within first end p ≡ true → p / 256 ≡ c
in_chunk c first end p low high e =
    let from : first ≤ p = grind (arith, nat_tests) in
    let to : p < end = grind (arith, nat_tests) in
    omega (arith, low, high, from, to)

out_of_chunk : (c p : ℕ) → within (c * 256) (c * 256 + 256) p ≡ false → p / 256 ≡ c → ⊥
out_of_chunk c p e same =
    let from : c * 256 ≤ p = omega (arith, same) in
    let to : p < c * 256 + 256 = omega (arith, same) in
    let inside : within (c * 256) (c * 256 + 256) p ≡ true = grind (arith, nat_tests) in
    cc

-- what is kept of a paragraph's whole chunk, after that is set
whole_in : (ms : List Step) (c p : ℕ) (m : Step) → c < length ms → within (c * 256) (c * 256 + 256) p ≡ true →
    get_or (set ms c m) (p / 256) None ≡ m
whole_in ms c p m fits e = ap (λ (i : ℕ). get_or (set ms c m) i None) (in_chunk c (c * 256) (c * 256 + 256) p
    (omega arith) (omega arith) e) ∙ get_or-set_same ms c m None fits

whole_out : (ms : List Step) (c p : ℕ) (m : Step) → within (c * 256) (c * 256 + 256) p ≡ false →
    get_or (set ms c m) (p / 256) None ≡ get_or ms (p / 256) None
whole_out ms c p m e = get_or-set_other ms c (p / 256) m None (out_of_chunk c p e)

-- ---- a chunk that is freed as a whole

whole_case : (w : Bool) (m n x : Step) (o : Origin) → (w ≡ true → n ≡ Some o) → (w ≡ false → n ≡ m) →
    option_or n x ≡ (if w then Some o else option_or m x)
whole_case true m n x o in_ out = ap (λ (y : Step). option_or y x) (in_ refl)
whole_case false m n x o in_ out = ap (λ (y : Step). option_or y x) (out refl)

whole_freed : (ms ps : List Step) (c : ℕ) (o : Origin) → c < length ms →
    Frees (within (c * 256) (c * 256 + 256)) o (freed_by ms ps) (freed_by (set ms c (Some o)) ps)
whole_freed ms ps c o fits = record {
  count = length-freed_by (set ms c (Some o)) ps ∙ sym (length-freed_by ms ps);
  at = λ p less.
      let inside : p < length ps = omega (arith, less, length-freed_by ms ps) in
      let w = within (c * 256) (c * 256 + 256) p in
      at-freed_by (set ms c (Some o)) ps p inside
      ∙ whole_case w (get_or ms (p / 256) None) (get_or (set ms c (Some o)) (p / 256) None) (get_or ps p None) o
      (whole_in ms c p (Some o) fits) (whole_out ms c p (Some o))
      ∙ ap (λ (x : Step). if w then Some o else x) (sym (at-freed_by ms ps p inside));
}

pub whole_set : (ms ps : List Step) (c first end : ℕ) (o : Origin) → c < length ms → first ≡ c * 256 →
    end ≡ c * 256 + 256 → Frees (within first end) o (freed_by ms ps) (freed_by (set ms c (Some o)) ps)
whole_set ms ps c first end o fits from to =
    let F : ℕ → ℕ → Type 0 = λ a b. Frees (within a b) o (freed_by ms ps) (freed_by (set ms c (Some o)) ps) in
    subst (λ (a : ℕ). F a end) (sym from) (subst (λ (b : ℕ). F (c * 256) b) (sym to) (whole_freed ms ps c o fits))

-- ---- a whole chunk that is written to its paragraphs

spread_case : (w : Bool) (m n x y : Step) (o : Origin) → y ≡ (if w then Some o else x) → (w ≡ true → m ≡ Some o) →
    (w ≡ true → n ≡ None) → (w ≡ false → n ≡ m) → option_or n y ≡ option_or m x
spread_case true m n x y o e was in_ out = ap₂ (λ (a b : Step). option_or a b) (in_ refl) e
    ∙ ap (λ (a : Step). option_or a x) (sym (was refl))
spread_case false m n x y o e was in_ out = ap₂ (λ (a b : Step). option_or a b) (out refl) e

pub spread_alone : (ms ps qs : List Step) (c : ℕ) (o : Origin) → c < length ms → get_or ms c None ≡ Some o →
    Frees (within (c * 256) (c * 256 + 256)) o ps qs → freed_by (set ms c None) qs ≡ freed_by ms ps
spread_alone ms ps qs c o fits was written =
    let ns : List Step = set ms c None in
    ext_get_or None (freed_by ns qs) (freed_by ms ps) (length-freed_by ns qs ∙ written.count
    ∙ sym (length-freed_by ms ps)) (λ p less.
    (let over : p < length qs = omega (arith, less, length-freed_by ns qs) in
    let inside : p < length ps = omega (arith, over, written.count) in
    let w = within (c * 256) (c * 256 + 256) p in
    let here : w ≡ true → get_or ms (p / 256) None ≡ Some o =
    λ e. ap (λ (i : ℕ). get_or ms i None) (in_chunk c (c * 256) (c * 256 + 256) p (omega arith) (omega arith) e)
    ∙ was in
    at-freed_by ns qs p over
    ∙ spread_case w (get_or ms (p / 256) None) (get_or ns (p / 256) None) (get_or ps p None) (get_or qs p None) o
    (written.at p inside) here (whole_in ms c p None fits) (whole_out ms c p None)
    ∙ sym (at-freed_by ms ps p inside)))

-- ---- paragraphs of a chunk that was not freed as a whole

part_case : (w : Bool) (m x y : Step) (o : Origin) → y ≡ (if w then Some o else x) → (w ≡ true → m ≡ None) →
    option_or m y ≡ (if w then Some o else option_or m x)
part_case true m x y o e none = ap₂ (λ (a b : Step). option_or a b) (none refl) e
part_case false m x y o e none = ap (λ (a : Step). option_or m a) e

pub part_written : (ms ps qs : List Step) (c first end : ℕ) (o : Origin) → c * 256 ≤ first → end ≤ c * 256 + 256 →
    get_or ms c None ≡ None → Frees (within first end) o ps qs →
    Frees (within first end) o (freed_by ms ps) (freed_by ms qs)
part_written ms ps qs c first end o low high none written = record {
  count = length-freed_by ms qs ∙ written.count ∙ sym (length-freed_by ms ps);
  at = λ p less.
      let inside : p < length ps = omega (arith, less, length-freed_by ms ps) in
      let over : p < length qs = omega (arith, inside, written.count) in
      let w = within first end p in
      let here : w ≡ true → get_or ms (p / 256) None ≡ None =
      λ e. ap (λ (i : ℕ). get_or ms i None) (in_chunk c first end p low high e) ∙ none in
      at-freed_by ms qs p over
      ∙ part_case w (get_or ms (p / 256) None) (get_or ps p None) (get_or qs p None) o (written.at p inside) here
      ∙ ap (λ (x : Step). if w then Some o else x) (sym (at-freed_by ms ps p inside));
}
