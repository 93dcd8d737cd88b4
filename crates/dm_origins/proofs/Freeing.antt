-- Paragraphs whose origin is set.
use Rattle.std.proofs.Common.{◌≡◌, ℕ, suc, ◌+◌, ◌<◌, ◌≤◌, ◌⊎◌, Bool, true, false, not, nat_lt, List, [], ◌∷◌, length, get_or, take, Option, Some, None, refl, sym, ◌∙◌, ap, ap₂, subst, arith, inl, inr}
use Rattle.std.specs.Prelude.{◌==◌, ◌&&◌, ◌||◌, if◌then◌else◌}
use Rattle.std.specs.List.{list_any, AllWithin}
use Rattle.std.proofs.Math.ListN.{set}
use Rattle.std.proofs.Math.Seq.{take-length}
use Rattle.std.proofs.lemmas.Bool.{cases_eq}
use Rattle.std.proofs.lemmas.Bool.Decides.{nat_tests}
use Rattle.std.proofs.lemmas.List.{take_more, get_or_default, get_or-set_same, get_or-set_other, length-set}
use Rattle.std.proofs.lemmas.List.Folds.{list_any-append, list_any-from_Any}
use Rattle.dm_blocks.specs.declared.header.Header.{Header}
use Rattle.dm_findings.specs.declared.finding.Origin.{Origin}
use Rattle.dm_origins.specs.Origins.{each_from, covers, is_free_in, freed_in}
use Rattle.dm_origins.specs.inner.Freed.{within, Frees, SameFrom}
use Rattle.dm_origins.proofs.Each.{is_each}

-- ---- which origins are set

if_false : {A : Type 0} (b : Bool) (x y : A) → b ≡ false → (if b then x else y) ≡ y
if_false b x y e = ap (λ (t : Bool). if t then x else y) e

pub frees_none : (is : ℕ → Bool) (o : Origin) (f : List (Option Origin)) → ((p : ℕ) → p < length f → is p ≡ false) →
    Frees is o f f
frees_none is o f un = record {
  count = refl;
  at = λ p less. sym (if_false (is p) (Some o) (get_or f p None)
      (un p less));
}

pub frees_as : (is also : ℕ → Bool) (o : Origin) (f g : List (Option Origin)) → Frees is o f g →
    ((p : ℕ) → p < length f → is p ≡ also p) → Frees also o f g
frees_as is also o f g x same = record {
  count = x.count;
  at = λ p less. x.at p less ∙ ap (λ (t : Bool). if t then
      Some o else get_or f p None) (same p less);
}

if_or : {A : Type 0} (a b : Bool) (x y : A) → (if b then x else if a then x else y) ≡ (if a || b then x else y)
if_or true true x y = refl
if_or true false x y = refl
if_or false true x y = refl
if_or false false x y = refl

pub frees_more : (is also both : ℕ → Bool) (o : Origin) (f g h : List (Option Origin)) → Frees is o f g →
    Frees also o g h → ((p : ℕ) → p < length f → both p ≡ (is p || also p)) → Frees both o f h
frees_more is also both o f g h x y e = record {
  count = y.count ∙ x.count;
  at = λ p less.
      let inside : p < length g = subst (λ (n : ℕ). p < n) (sym x.count) less in
      y.at p inside ∙ ap (λ (z : Option Origin). if also p then Some o else z) (x.at p less)
      ∙ if_or (is p) (also p) (Some o) (get_or f p None) ∙ ap (λ (t : Bool). if t then Some o else
      get_or f p None) (sym (e p less));
}

-- ---- runs

within_none : (first p : ℕ) → within first first p ≡ false
within_none first p = grind (arith, nat_tests)

within_more : (first i p : ℕ) → first ≤ i → within first (i + 1) p ≡ (within first i p || within i (i + 1) p)
within_more first i p order = grind (arith, nat_tests)

pub runs_none : (u : ℕ → Bool) (first : ℕ) (o : Origin) (f : List (Option Origin)) →
    Frees (λ p. within first first p && u p) o f f
runs_none u first o f = frees_none (λ p. within first first p && u p) o f (λ p less. ap (λ (t : Bool). t &&
    u p) (within_none first p))

pub set_none : (first : ℕ) (o : Origin) (f : List (Option Origin)) → Frees (within first first) o f f
set_none first o f = frees_none (within first first) o f (λ p less. within_none first p)

set_one : (o : Origin) (f : List (Option Origin)) (i : ℕ) → i < length f →
    Frees (within i (i + 1)) o f (set f i (Some o))
set_one o f i fits = record {
  count = length-set f i (Some o);
  at = λ p less. elim (cases_eq p i) [
    | inl same ↦ (let ins : within i (i + 1) p ≡ true = grind (arith, nat_tests) in
        ap (λ (k : ℕ). get_or (set f i (Some o)) k None) same ∙ get_or-set_same f i (Some o) None fits
        ∙ ap (λ (t : Bool). if t then Some o else get_or f p None) (sym ins))
    | inr other ↦ (let out : within i (i + 1) p ≡ false = grind (arith, nat_tests) in
        get_or-set_other f i p (Some o) None other ∙ ap (λ (t : Bool). if t then Some o else get_or f p None) (sym out))
  ];
}

pub set_more : (first i : ℕ) (o : Origin) (f g : List (Option Origin)) → first ≤ i → i < length f →
    Frees (within first i) o f g → Frees (within first (i + 1)) o f (set g i (Some o))
set_more first i o f g order fits x =
    let long : i < length g = subst (λ (n : ℕ). i < n) (sym x.count) fits in
    frees_more (within first i) (within i (i + 1)) (within first (i + 1)) o f g (set g i (Some o)) x
    (set_one o g i long) (λ p less. within_more first i p order)

-- ---- paragraphs that one list answers for alike

pub same_next : (at end next : ℕ) (xs : List Header) (i : ℕ) (e : Header) → i < length xs → next ≤ end →
    AllWithin (SameFrom at end) xs 0 i → SameFrom at next (get_or xs i e) → AllWithin (SameFrom at next) xs 0 (i + 1)
same_next at end next xs i e less few h f n d low high = elim (cases_eq n i) [
  | inl same ↦ subst (λ (j : ℕ). SameFrom at next (get_or xs j d)) (sym same)
      (subst (λ (b : Header). SameFrom at next b) (get_or_default xs i e d less) f)
  | inr other ↦ λ p from to. h n d low (omega (arith, high, other)) p from (omega (arith, to, few))
]

pub all_same : (at end : ℕ) (xs : List Header) → AllWithin (SameFrom at end) xs 0 (length xs) → (p : ℕ) → at ≤ p →
    p ≤ end → is_free_in xs p ≡ is_free_in xs at
all_same at end [] h p from to = refl
all_same at end (x ∷ xs) h p from to =
    let here : covers p x ≡ covers at x = h 0 x (omega arith) (omega arith) p from to in
    let rest : AllWithin (SameFrom at end) xs 0 (length xs) = λ n d low high. h (suc n) d (omega arith) (omega (
      arith,
      high,
    )) in
    ap₂ (λ (a b : Bool). a || b) here (all_same at end xs rest p from to)

-- ---- one run

and_false : (a b : Bool) → b ≡ false → (a && b) ≡ false
and_false true b e = e
and_false false b e = refl

and_true : (a b : Bool) → b ≡ true → (a && b) ≡ a
and_true true b e = e
and_true false b e = refl

in_run : (at end p : ℕ) → within at (end + 1) p ≡ true → (at ≤ p) × (p ≤ end)
in_run at end p e = (let low : at ≤ p = grind (arith, nat_tests) in let high : p < end + 1 = grind (arith, nat_tests) in
    (low, omega arith))

by_run : (w u v : Bool) → (w ≡ true → u ≡ v) → v ≡ false → w ≡ (w && not u)
by_run true u v same e = ap not (sym (same refl ∙ e))
by_run false u v same e = refl

by_none : (w u v : Bool) → (w ≡ true → u ≡ v) → v ≡ true → (w && not u) ≡ false
by_none true u v same e = ap not (same refl ∙ e)
by_none false u v same e = refl

pub run_set : (old : List Header) (at end : ℕ) (o : Origin) (f g : List (Option Origin)) →
    ((p : ℕ) → at ≤ p → p ≤ end → is_free_in old p ≡ is_free_in old at) → is_free_in old at ≡ false →
    Frees (within at (end + 1)) o f g → Frees (λ p. within at (end + 1) p && not (is_free_in old p)) o f g
run_set old at end o f g same used x = frees_as (within at (end + 1)) (λ p. within at (end + 1) p &&
    not (is_free_in old p)) o f g x
    (λ p less. by_run (within at (end + 1) p) (is_free_in old p) (is_free_in old at) (λ e. (let both =
    in_run at end p e in same p both.0 both.1)) used)

pub run_kept : (old : List Header) (at end : ℕ) (o : Origin) (f : List (Option Origin)) →
    ((p : ℕ) → at ≤ p → p ≤ end → is_free_in old p ≡ is_free_in old at) → is_free_in old at ≡ true →
    Frees (λ p. within at (end + 1) p && not (is_free_in old p)) o f f
run_kept old at end o f same free = frees_none (λ p. within at (end + 1) p && not (is_free_in old p)) o f
    (λ p less. by_none (within at (end + 1) p) (is_free_in old p) (is_free_in old at) (λ e. (let both =
    in_run at end p e in same p both.0 both.1)) free)

-- ---- the runs of a block

or_and : (a b u : Bool) → ((a || b) && u) ≡ ((a && u) || (b && u))
or_and true true true = refl
or_and true true false = refl
or_and true false true = refl
or_and true false false = refl
or_and false true true = refl
or_and false true false = refl
or_and false false true = refl
or_and false false false = refl

within_on : (first at end p : ℕ) → first ≤ at → at ≤ end → within first end p ≡ (within first at p || within at end p)
within_on first at end p low high = grind (arith, nat_tests)

pub runs_more : (u : ℕ → Bool) (first at end : ℕ) (o : Origin) (f g h : List (Option Origin)) → first ≤ at → at ≤ end →
    Frees (λ p. within first at p && u p) o f g → Frees (λ p. within at end p && u p) o g h →
    Frees (λ p. within first end p && u p) o f h
runs_more u first at end o f g h low high x y = frees_more (λ p. within first at p && u p) (λ p. within at end p &&
    u p) (λ p. within first end p && u p) o f g h x y
    (λ p less. ap (λ (t : Bool). t && u p) (within_on first at end p low high)
    ∙ or_and (within first at p) (within at end p) (u p))

covers_by : (b : Header) (p : ℕ) → b.owner ≡ 0 → covers p b ≡ (not (nat_lt p b.segment) &&
    not (nat_lt (b.segment + b.size) p))
covers_by b p e = (let owned : (b.owner == 0) ≡ true = grind (arith, nat_tests) in
    ap (λ (t : Bool). t && not (nat_lt p b.segment) && not (nat_lt (b.segment + b.size) p)) owned)

pub not_covered : (b : Header) (p : ℕ) → (b.owner == 0) ≡ false → covers p b ≡ false
not_covered b p e = ap (λ (t : Bool). t && not (nat_lt p b.segment) && not (nat_lt (b.segment + b.size) p)) e

ends_same : (b : Header) (p end : ℕ) → (p < 0x10000) → (end ≤ 0x10000) → (end ≤ b.segment + b.size + 1) →
    ((b.segment + b.size < end) ⊎ (end ≡ 0x10000)) → not (nat_lt (b.segment + b.size) p) ≡ nat_lt p end
ends_same b p end small most few (inl whole) = grind (arith, nat_tests)
ends_same b p end small most few (inr top) = grind (arith, nat_tests)

pub block_runs : (old : List Header) (b : Header) (end : ℕ) (o : Origin) (f g : List (Option Origin)) →
    length f ≡ 0x10000 → b.owner ≡ 0 → (end ≤ 0x10000) → (end ≤ b.segment + b.size + 1) →
    ((b.segment + b.size < end) ⊎ (end ≡ 0x10000)) → Frees (λ p. within b.segment end p &&
    not (is_free_in old p)) o f g → Frees (λ p. covers p b && not (is_free_in old p)) o f g
block_runs old b end o f g size free most few whole x = frees_as (λ p. within b.segment end p &&
    not (is_free_in old p)) (λ p. covers p b && not (is_free_in old p)) o f g x
    (λ p less.
    let small : p < 0x10000 = omega (arith, less, size) in
    let same : covers p b ≡ within b.segment end p = covers_by b p free ∙ ap (λ (t : Bool). not (nat_lt p b.segment) &&
    t) (ends_same b p end small most few whole) in
    ap (λ (t : Bool). t && not (is_free_in old p)) (sym same))

pub block_used : (old : List Header) (b : Header) (o : Origin) (f : List (Option Origin)) → (b.owner == 0) ≡ false →
    Frees (λ p. covers p b && not (is_free_in old p)) o f f
block_used old b o f e = frees_none (λ p. covers p b && not (is_free_in old p)) o f (λ p less. ap (λ (t : Bool). t &&
    not (is_free_in old p)) (not_covered b p e))

covered_none : (c u : Bool) → (c ≡ true → u ≡ true) → (c && not u) ≡ false
covered_none true u e = ap not (e refl)
covered_none false u e = refl

pub block_within : (old : List Header) (b : Header) (o : Origin) (f : List (Option Origin)) →
    ((p : ℕ) → covers p b ≡ true → is_free_in old p ≡ true) → Frees (λ p. covers p b && not (is_free_in old p)) o f f
block_within old b o f e = frees_none (λ p. covers p b && not (is_free_in old p)) o f
    (λ p less. covered_none (covers p b) (is_free_in old p) (e p))

-- ---- all blocks

or_none : (a : Bool) → (a || false) ≡ a
or_none true = refl
or_none false = refl

free_next : (new : List Header) (k p : ℕ) (d : Header) → k < length new → is_free_in (take (k + 1) new) p
    ≡ (is_free_in (take k new) p || covers p (get_or new k d))
free_next new k p d less =
    ap (list_any (covers p)) (take_more new k d less) ∙ list_any-append (covers p) (take k new) (get_or new k d ∷ [])
    ∙ ap (λ (t : Bool). is_free_in (take k new) p || t) (or_none (covers p (get_or new k d)))

abbrev pub Freed : List Header → List Header → ℕ → Origin → List (Option Origin) → List (Option Origin) → Type 0
Freed old new k o f g = Frees (λ p. is_free_in (take k new) p && not (is_free_in old p)) o f g

pub freed_none : (old new : List Header) (o : Origin) (f : List (Option Origin)) → Freed old new 0 o f f
freed_none old new o f = frees_none (λ p. is_free_in (take 0 new) p && not (is_free_in old p)) o f (λ p less. refl)

pub freed_more : (old new : List Header) (k : ℕ) (d : Header) (o : Origin) (f g h : List (Option Origin)) →
    k < length new → Freed old new k o f g → Frees (λ p. covers p (get_or new k d) && not (is_free_in old p)) o g h →
    Freed old new (k + 1) o f h
freed_more old new k d o f g h less x y = frees_more (λ p. is_free_in (take k new) p &&
    not (is_free_in old p)) (λ p. covers p (get_or new k d) && not (is_free_in old p))
    (λ p. is_free_in (take (k + 1) new) p && not (is_free_in old p)) o f g h x y
    (λ p small. ap (λ (t : Bool). t && not (is_free_in old p)) (free_next new k p d less)
    ∙ or_and (is_free_in (take k new) p) (covers p (get_or new k d)) (not (is_free_in old p)))

pub freed_all : (old new : List Header) (o : Origin) (f g : List (Option Origin)) → Freed old new (length new) o f g →
    g ≡ each_from (freed_in old new o) 0 f
freed_all old new o f g x = is_each (freed_in old new o) f g None x.count
    (λ p less. x.at p less ∙ ap (λ (l : List Header). if is_free_in l p && not (is_free_in old p) then Some o else
    get_or f p None) (take-length new))

-- ---- a block that lies in another

pub covered_in : (old : List Header) (near : ℕ) (d b : Header) → near < length old →
    ((p : ℕ) → covers p b ≡ true → covers p (get_or old near d) ≡ true) → (p : ℕ) → covers p b ≡ true →
    is_free_in old p ≡ true
covered_in old near d b less h p e = list_any-from_Any (covers p) old (
  near,
  get_or old near d,
  less,
  get_or_default old near (get_or old near d) d less,
  h p e,
)
