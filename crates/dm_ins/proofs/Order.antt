-- Spellings in order, and the least of several.
use Rattle.std.proofs.Common.{◌≡◌, ℕ, ◌+◌, ◌<◌, ◌≤◌, Bool, true, false, List, [], ◌∷◌, ◌++◌, length, Option, Some, None, refl, sym, ap, subst, ◌∙◌, arith, inl, inr, nat_lt}
use Rattle.std.specs.Prelude.{◌⊎◌, cond, IfSome, IfNone}
use Rattle.std.specs.Ordering.{is_lt, nat_cmp, ordering_reverse, ordering_then}
use Rattle.std.specs.declared.cmp.Ordering.{Ordering}
use Rattle.std.specs.declared.cmp.Ordering.TheVariants.{Less, Equal, Greater}
use Rattle.std.specs.Cmp.Lexicographic.{slice_cmp, nat_list_cmp_total}
use Rattle.std.proofs.lemmas.List.{length-append}
use Rattle.std.proofs.lemmas.Bool.{cases_lt, ltb-true, ltb-false, lt-ltb, le-ltb}
use Rattle.dm_ins.specs.declared.action.Action.{Action}
use Rattle.dm_ins.specs.declared.fill.Choice.{Choice}
use Rattle.dm_ins.specs.declared.keys.Key.{Key}
use Rattle.dm_ins.specs.inner.Keys.{key_at}
use Rattle.dm_ins.specs.Order.{before}
use Rattle.dm_ins.specs.inner.Search.{better_of, Best, CandidateAt, Under, bytes_of}

abbrev Before : List ℕ → List ℕ → Type 0
Before a b = (length a < length b) ⊎ ((length a ≡ length b) × (slice_cmp nat_cmp a b ≡ Less))

less : (r : Ordering) → is_lt r ≡ true → r ≡ Less
less Less e = refl
less Equal e = absurd cc
less Greater e = absurd cc

by_tests : (s t : Bool) (m n : ℕ) (r : Ordering) → nat_lt m n ≡ s → nat_lt n m ≡ t →
    cond s true (cond t false (is_lt r)) ≡ true → (m < n) ⊎ ((m ≡ n) × (r ≡ Less))
by_tests true t m n r p q e = inl (ltb-true m n p)
by_tests false true m n r p q e = absurd cc
by_tests false false m n r p q e = inr (omega (arith, ltb-false m n p, ltb-false n m q), less r e)

before_is : (a b : List ℕ) → before a b ≡ true → Before a b
before_is a b e = by_tests (nat_lt (length a) (length b)) (nat_lt (length b) (length a)) (length a) (length b)
    (slice_cmp nat_cmp a b) refl refl e

before_so : (a b : List ℕ) → Before a b → before a b ≡ true
before_so a b (inl lt) = rw (lt-ltb (length a) (length b) lt) refl
before_so a b (inr e) =
    let p : nat_lt (length a) (length b) ≡ false = le-ltb (length a) (length b) (omega (arith, e.0)) in
    let q : nat_lt (length b) (length a) ≡ false = le-ltb (length b) (length a) (omega (arith, e.0)) in
    rw (p, q, e.1) refl

Before-trans : (a b c : List ℕ) → Before a b → Before b c → Before a c
Before-trans a b c (inl p) (inl q) = inl (omega arith)
Before-trans a b c (inl p) (inr q) = inl (omega (arith, q.0))
Before-trans a b c (inr p) (inl q) = inl (omega (arith, p.0))
Before-trans a b c (inr p) (inr q) = inr (p.0 ∙ q.0, nat_list_cmp_total.trans a b c p.1 q.1)

Before-irrefl : (a : List ℕ) → Before a a → ⊥
Before-irrefl a (inl p) = omega arith
Before-irrefl a (inr p) = let e = nat_list_cmp_total.antisymm a a in let f : Less ≡ Greater =
    sym p.1 ∙ e ∙ ap ordering_reverse p.1 in cc

not_so : (b : Bool) → (b ≡ true → ⊥) → b ≡ false
not_so true f = absurd (f refl)
not_so false f = refl

so_not : (b : Bool) → b ≡ false → b ≡ true → ⊥
so_not b p q = cc

pub not_before_itself : (a : List ℕ) → before a a ≡ false
not_before_itself a = not_so (before a a) (λ e. Before-irrefl a (before_is a a e))

-- what isn't before a isn't before what is before a
not_before : (c a b : List ℕ) → before c a ≡ false → before b a ≡ true → before c b ≡ false
not_before c a b p q = not_so (before c b) (λ e. so_not (before c a) p
    (before_so c a (Before-trans c b a (before_is c b e) (before_is b a q))))

choice_one : (x y : Choice) → Some x ≡ Some y → x ≡ y
choice_one x y e = cc

list_one : (x y : List ℕ) → Some x ≡ Some y → x ≡ y
list_one x y e = cc

one_candidate : (b g : ℕ) (a : Action) (c d : List ℕ) → CandidateAt b g a c → CandidateAt b g a d → c ≡ d
one_candidate b g a c d p q =
    let e = choice_one p.choice q.choice (sym p.is_choice ∙ q.is_choice) in
    list_one c d (sym p.is_bytes ∙ ap (λ (x : Choice). bytes_of x a.first a.second) e ∙ q.is_bytes)

pub best_none : (ks : List Key) (a : Action) → Best 0 ks a None
best_none ks a = record { found = tt; least = λ k c lt h. absurd (omega arith) }

last_or_before : (i n : ℕ) → i < n + 1 → (i < n) ⊎ (i ≡ n)
last_or_before i n lt = elim (cases_lt i n) [ inl below ↦ inl below | inr le ↦ inr (omega arith) ]

module _ (ks : List Key) (a : Action) (n : ℕ) where
  here : (i : ℕ) (c : List ℕ) → i ≡ n → Under ks i a c → Under ks n a c
  here i c e h = subst (λ (j : ℕ). Under ks j a c) e h

  same : (c d : List ℕ) → Under ks n a c → Under ks n a d → c ≡ d
  same c d p q = one_candidate (key_at ks n).opcode (key_at ks n).register a c d p q

  kept_best : (s : Bool) (old new : List ℕ) → before new old ≡ s → Best n ks a (Some old) → Under ks n a new →
      Best (n + 1) ks a (cond s (Some new) (Some old))
  kept_best true old new e best h = record {
    found = ((key_at ks n).opcode, (key_at ks n).register, h);
    least = λ i c lt x. elim (last_or_before i n lt) [
      | inl below ↦ not_before c old new (best.least i c below x) e
      | inr is ↦ (let d = same c new (here i c is x) h in rw d (not_before_itself new))
    ];
  }
  kept_best false old new e best h = record {
    found = best.found;
    least = λ i c lt x. elim (last_or_before i n lt) [
      | inl below ↦ best.least i c below x
      | inr is ↦ (let d = same c new (here i c is x) h in rw d e)
    ];
  }

  -- with one template more
  pub best_more : (o new : Option (List ℕ)) → Best n ks a o → IfSome new (λ v. Under ks n a v) →
      IfNone new ((c : List ℕ) → Under ks n a c → ⊥) → Best (n + 1) ks a (better_of o new)
  best_more None None best some none = record {
    found = tt;
    least = λ i c lt x. elim (last_or_before i n lt) [
      | inl below ↦ best.least i c below x
      | inr is ↦
          absurd (none c (here i c is x))
    ];
  }
  best_more None (Some new) best some none = record {
    found = ((key_at ks n).opcode, (key_at ks n).register, some);
    least = λ i c lt x. elim (last_or_before i n lt) [
      | inl below ↦ absurd (best.least i c below x)
      | inr is ↦ (let d = same c new (here i c is x) some in rw d (not_before_itself new))
    ];
  }
  best_more (Some old) None best some none = record {
    found = best.found;
    least = λ i c lt x. elim (last_or_before i n lt) [
      | inl below ↦ best.least i c below x
      | inr is ↦
          absurd (none c (here i c is x))
    ];
  }
  best_more (Some old) (Some new) best some none = kept_best (before new old) old new refl best some

pub best_at : (m n : ℕ) (ks : List Key) (a : Action) (o : Option (List ℕ)) → m ≡ n → Best m ks a o → Best n ks a o
best_at m n ks a o e best = subst (λ (k : ℕ). Best k ks a o) e best

-- ---- lists one behind the other

pub not_longer : (a b : List ℕ) → before b a ≡ false → length a ≤ length b
not_longer a b e = elim (cases_lt (length b) (length a)) [
  | inl lt ↦
      absurd (so_not (before b a) e (before_so b a (inl lt)))
  | inr le ↦ le
]

pub not_shorter : (a b : List ℕ) → length a < length b → before b a ≡ false
not_shorter a b lt = not_so (before b a) (λ e. by (before_is b a e))
  where
    by : Before b a → ⊥
    by (inl x) = omega arith
    by (inr x) = omega (arith, x.0)

cmp_append : (p q s t : List ℕ) → length p ≡ length q → slice_cmp nat_cmp (p ++ s) (q ++ t)
    ≡ ordering_then (slice_cmp nat_cmp p q) (slice_cmp nat_cmp s t)
cmp_append [] [] s t e = refl
cmp_append [] (y ∷ q) s t e = absurd (omega arith)
cmp_append (x ∷ p) [] s t e = absurd (omega arith)
cmp_append (x ∷ p) (y ∷ q) s t e = ap (ordering_then (nat_cmp x y)) (cmp_append p q s t (omega arith))
    ∙ then_assoc (nat_cmp x y) (slice_cmp nat_cmp p q) (slice_cmp nat_cmp s t)
  where
    then_assoc : (r u v : Ordering) → ordering_then r (ordering_then u v) ≡ ordering_then (ordering_then r u) v
    then_assoc Less u v = refl
    then_assoc Equal u v = refl
    then_assoc Greater u v = refl

then_less : (r u : Ordering) → ordering_then r u ≡ Less → (r ≡ Less) ⊎ (u ≡ Less)
then_less Less u e = inl refl
then_less Equal u e = inr e
then_less Greater u e = absurd cc

pub not_before_append : (p q s t : List ℕ) → before p q ≡ false → before s t ≡ false → before (p ++ s) (q ++ t) ≡ false
not_before_append p q s t e f = not_so _ (λ g. by (before_is (p ++ s) (q ++ t) g))
  where
    by : Before (p ++ s) (q ++ t) → ⊥
    by (inl lt) = omega (arith, length-append p s, length-append q t, not_longer q p e, not_longer t s f)
    by (inr x) =
        let m : length p ≡ length q = omega (
          arith,
          x.0,
          length-append p s,
          length-append q t,
          not_longer q p e,
          not_longer t s f,
        ) in
        let n : length s ≡ length t = omega (
          arith,
          x.0,
          length-append p s,
          length-append q t,
          not_longer q p e,
          not_longer t s f,
        ) in
        elim (then_less (slice_cmp nat_cmp p q) (slice_cmp nat_cmp s t) (sym (cmp_append p q s t m) ∙ x.1)) [
          | inl l ↦ so_not (before p q) e (before_so p q (inr (m, l)))
          | inr l ↦ so_not (before s t) f (before_so s t (inr (n, l)))
        ]

pub same_first : (x : ℕ) (p q : List ℕ) → before p q ≡ false → before (x ∷ p) (x ∷ q) ≡ false
same_first x p q e = not_before_append (x ∷ []) (x ∷ []) p q (not_before_itself (x ∷ [])) e

pub greater_first : (x y : ℕ) (p q : List ℕ) → nat_cmp x y ≡ Greater → length p ≡ length q →
    before (x ∷ p) (y ∷ q) ≡ false
greater_first x y p q e n = not_so _ (λ g. by (before_is (x ∷ p) (y ∷ q) g))
  where
    by : Before (x ∷ p) (y ∷ q) → ⊥
    by (inl lt) = omega arith
    by (inr z) = let f : ordering_then (nat_cmp x y) (slice_cmp nat_cmp p q) ≡ Less = z.1 in let h : Greater ≡ Less =
        sym (ap (λ r. ordering_then r (slice_cmp nat_cmp p q)) e) ∙ f in cc
