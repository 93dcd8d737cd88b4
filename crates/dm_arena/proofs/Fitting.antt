-- The search finds the fit.
use Rattle.std.proofs.Common.{◌≡◌, ℕ, Bool, true, false, cond, ◌&&◌, IsTrue, List, [], ◌∷◌, ◌++◌, ◌⊎◌, inl, inr, refl, sym, ◌∙◌, ap, subst, arith, Option, Some, None}
use Rattle.std.proofs.lemmas.Bool.Decides.{nat_tests}
use Rattle.dm_blocks.specs.declared.header.Header.{Header}
use Rattle.dm_arena.specs.declared.fit.Strategy.{Strategy}
use Rattle.dm_arena.specs.declared.fit.Fit.{Fit}
use Rattle.dm_arena.specs.declared.fit.Fit.TheVariants.{First, Best, Last}
use Rattle.dm_arena.specs.declared.fit.Area.{Area}
use Rattle.dm_arena.specs.declared.fit.Area.TheVariants.{All, Upper, UpperFirst}
use Rattle.dm_arena.specs.Blocks.{before_or, fits, is_upper, prefers, prefers_by, prefers_in, IsIn, IsFit}
use Rattle.dm_arena.specs.inner.Walks.{pick, better}

-- by the fit alone
by-trans : (f : Fit) (a b c : Header) → IsTrue (prefers_by f a b) → IsTrue (prefers_by f b c) →
    IsTrue (prefers_by f a c)
by-trans First a b c x y = grind (arith, nat_tests)
by-trans Best a b c x y = grind (arith, nat_tests)
by-trans Last a b c x y = grind (arith, nat_tests)

by-refl : (f : Fit) (a : Header) → IsTrue (prefers_by f a a)
by-refl First a = grind (arith, nat_tests)
by-refl Best a = grind (arith, nat_tests)
by-refl Last a = grind (arith, nat_tests)

by-total : (f : Fit) (a b : Header) → prefers_by f a b ≡ false → IsTrue (prefers_by f b a)
by-total First a b x = grind (arith, nat_tests)
by-total Best a b x = grind (arith, nat_tests)
by-total Last a b x = grind (arith, nat_tests)

by-same : (f : Fit) (b c : Header) → IsTrue (prefers_by f b c) → IsTrue (prefers_by f c b) → b.segment ≡ c.segment
by-same First b c x y = grind (arith, nat_tests)
by-same Best b c x y = grind (arith, nat_tests)
by-same Last b c x y = grind (arith, nat_tests)

false≢true : false ≡ true → ⊥
false≢true e = absurd cc

-- with an area that comes first
order-trans : (x y z p q r : Bool) → (IsTrue p → IsTrue q → IsTrue r) → IsTrue (before_or x y p) →
    IsTrue (before_or y z q) → IsTrue (before_or x z r)
order-trans true true true p q r f h k = f h k
order-trans true z false p q r f h k = refl
order-trans true false true p q r f h k = absurd (false≢true k)
order-trans false true z p q r f h k = absurd (false≢true h)
order-trans false false true p q r f h k = absurd (false≢true k)
order-trans false false false p q r f h k = f h k

order-refl : (x p : Bool) → IsTrue p → IsTrue (before_or x x p)
order-refl true p h = h
order-refl false p h = h

order-total : (x y p q : Bool) → (p ≡ false → IsTrue q) → before_or x y p ≡ false → IsTrue (before_or y x q)
order-total true true p q f h = f h
order-total true false p q f h = absurd (false≢true (sym h))
order-total false true p q f h = refl
order-total false false p q f h = f h

order-same : (x y p q : Bool) (A : Type 0) → (IsTrue p → IsTrue q → A) → IsTrue (before_or x y p) →
    IsTrue (before_or y x q) → A
order-same true true p q A f h k = f h k
order-same true false p q A f h k = absurd (false≢true k)
order-same false true p q A f h k = absurd (false≢true h)
order-same false false p q A f h k = f h k

in-trans : (i : Area) (f : Fit) (a b c : Header) → IsTrue (prefers_in i f a b) → IsTrue (prefers_in i f b c) →
    IsTrue (prefers_in i f a c)
in-trans All f a b c x y = by-trans f a b c x y
in-trans Upper f a b c x y = by-trans f a b c x y
in-trans UpperFirst f a b c x y = order-trans (is_upper a) (is_upper b) (is_upper c) _ _ _ (by-trans f a b c) x y

in-refl : (i : Area) (f : Fit) (a : Header) → IsTrue (prefers_in i f a a)
in-refl All f a = by-refl f a
in-refl Upper f a = by-refl f a
in-refl UpperFirst f a = order-refl (is_upper a) _ (by-refl f a)

in-total : (i : Area) (f : Fit) (a b : Header) → prefers_in i f a b ≡ false → IsTrue (prefers_in i f b a)
in-total All f a b x = by-total f a b x
in-total Upper f a b x = by-total f a b x
in-total UpperFirst f a b x = order-total (is_upper a) (is_upper b) _ _ (by-total f a b) x

in-same : (i : Area) (f : Fit) (b c : Header) → IsTrue (prefers_in i f b c) → IsTrue (prefers_in i f c b) →
    b.segment ≡ c.segment
in-same All f b c x y = by-same f b c x y
in-same Upper f b c x y = by-same f b c x y
in-same UpperFirst f b c x y = order-same (is_upper b) (is_upper c) _ _ _ (by-same f b c) x y

prefers-trans : (st : Strategy) (a b c : Header) → IsTrue (prefers st a b) → IsTrue (prefers st b c) →
    IsTrue (prefers st a c)
prefers-trans st a b c x y = in-trans st.area st.fit a b c x y

prefers-refl : (st : Strategy) (a : Header) → IsTrue (prefers st a a)
prefers-refl st a = in-refl st.area st.fit a

prefers-total : (st : Strategy) (a b : Header) → prefers st a b ≡ false → IsTrue (prefers st b a)
prefers-total st a b x = in-total st.area st.fit a b x

pub prefers-same : (st : Strategy) (b c : Header) → IsTrue (prefers st b c) → IsTrue (prefers st c b) →
    b.segment ≡ c.segment
prefers-same st b c x y = in-same st.area st.fit b c x y

some-injective : (b c : Header) → Some b ≡ Some c → b ≡ c
some-injective b c e = cc

none≢some : (b : Header) → None ≡ Some b → ⊥
none≢some b e = cc

prefers_of : (st : Strategy) (b c d : Header) → c ≡ d → IsTrue (prefers st b d) → IsTrue (prefers st b c)
prefers_of st b c d e h = let P : Header → Type 0 = λ x. IsTrue (prefers st b x) in subst P (sym e) h

bool_cases : (b : Bool) → (b ≡ true) ⊎ (b ≡ false)
bool_cases true = inl refl
bool_cases false = inr refl

is_true : (b : Bool) → b ≡ true → IsTrue b
is_true b e = e

not_both : (b : Bool) → b ≡ false → IsTrue b → ⊥
not_both b e h = let x : false ≡ true = sym e ∙ h in cc

module _ (up : Bool) where
  -- the search that began with `best` gave the block b
  pub record Found (st : Strategy) (n : ℕ) (best : Option Header) (L : List Header) (b : Header) : Type 0 where
    pub fit : IsTrue (fits up st n b)
    pub over : (c : Header) → best ≡ Some c → IsTrue (prefers st b c)
    pub over_all : (c : Header) → IsIn c L → IsTrue (fits up st n c) → IsTrue (prefers st b c)
    pub there : (best ≡ Some b) ⊎ ((P : List Header) × (Q : List Header) × (L ≡ P ++ b ∷ Q))

  fits_of : (st : Strategy) (n : ℕ) (c d : Header) → c ≡ d → IsTrue (fits up st n c) → IsTrue (fits up st n d)
  fits_of st n c d e h = let P : Header → Type 0 = λ x. IsTrue (fits up st n x) in subst P e h

  -- one step, where the search goes on with `best'`
  found_step : (st : Strategy) (n : ℕ) (best best' : Option Header) (c : Header) (L : List Header) (b : Header) →
      Found st n best' L b → ((d : Header) → best ≡ Some d → (x : Header) → best' ≡ Some x → IsTrue (prefers st x d)) →
      ((d : Header) → best ≡ Some d → (x : Header) × (best' ≡ Some x)) → (IsTrue (fits up st n c) → (x : Header) ×
      (best' ≡ Some x) × IsTrue (prefers st x c)) → ((best' ≡ best) ⊎ (best' ≡ Some c)) → Found st n best (c ∷ L) b
  found_step st n best best' c L b f keeps stays takes is = record {
    fit = f.fit;
    over = λ d e. (let x = stays d e in prefers-trans st b x.0 d (f.over x.0 x.1) (keeps d e x.0 x.1));
    over_all = λ d i h. elim i [
      | inl e ↦ (let x = takes (fits_of st n d c e h) in
          prefers_of st b d c e (prefers-trans st b x.0 c (f.over x.0 x.1) x.2))
      | inr r ↦ f.over_all d r h
    ];
    there = elim f.there [
      | inl e ↦ elim is [
        | inl same ↦ inl (sym same ∙ e)
        | inr new ↦ inr ([], L, ap (λ x. x ∷ L) (some-injective c b (sym new ∙ e)))
      ]
      | inr r ↦ inr (c ∷ r.0, r.1, ap (λ x. c ∷ x) r.2)
    ];
  }

  better-none : (st : Strategy) (n : ℕ) (c : Header) (r : Bool) → fits up st n c ≡ r →
      better up st n None c ≡ cond r (Some c) None
  better-none st n c r e = rw e refl

  better-some : (st : Strategy) (n : ℕ) (d c : Header) (r q : Bool) → fits up st n c ≡ r → prefers st c d ≡ q →
      better up st n (Some d) c ≡ cond (r && q) (Some c) (Some d)
  better-some st n d c r q e f = rw (e, f) refl

  pub found : (st : Strategy) (n : ℕ) (best : Option Header) (L : List Header) (b : Header) →
      ((c : Header) → best ≡ Some c → IsTrue (fits up st n c)) → pick up st n best L ≡ Some b → Found st n best L b
  found st n best [] b ok e = record {
    fit = ok b e;
    over = λ c f. prefers_of st b c b (some-injective c b (sym f ∙ e)) (prefers-refl st b);
    over_all = λ c i. absurd i;
    there = inl e;
  }
  found st n None (c ∷ L) b ok e = elim (bool_cases (fits up st n c)) [
    | inl fit ↦
        let is : better up st n None c ≡ Some c = better-none st n c true fit in
        found_step st n None (Some c) c L b
        (found st n (Some c) L b (λ x f. fits_of st n c x (some-injective c x f) (is_true _ fit))
        (sym (ap (λ x. pick up st n x L) is) ∙ e))
        (λ d f. absurd (none≢some d f)) (λ d f. absurd (none≢some d f)) (λ h. (c, refl, prefers-refl st c)) (inr refl)
    | inr nay ↦
        let is : better up st n None c ≡ None = better-none st n c false nay in
        found_step st n None None c L b
        (found st n None L b ok (sym (ap (λ x. pick up st n x L) is) ∙ e))
        (λ d f. absurd (none≢some d f)) (λ d f. absurd (none≢some d f)) (λ h. absurd (not_both _ nay h)) (inl refl)
  ]
  found st n (Some a) (c ∷ L) b ok e = elim (bool_cases (fits up st n c)) [
    | inl fit ↦ elim (bool_cases (prefers st c a)) [
      | inl more ↦
          let is : better up st n (Some a) c ≡ Some c = better-some st n a c true true fit more in
          found_step st n (Some a) (Some c) c L b
          (found st n (Some c) L b (λ x f. fits_of st n c x (some-injective c x f) (is_true _ fit))
          (sym (ap (λ x. pick up st n x L) is) ∙ e))
          (λ d f x g. prefers_of st x d a (sym (some-injective a d f)) (let P : Header → Type 0 =
          λ z. IsTrue (prefers st z a) in subst P (some-injective c x g) (is_true _ more)))
          (λ d f. (c, refl)) (λ h. (c, refl, prefers-refl st c)) (inr refl)
      | inr less ↦
          let is : better up st n (Some a) c ≡ Some a = better-some st n a c true false fit less in
          found_step st n (Some a) (Some a) c L b
          (found st n (Some a) L b ok (sym (ap (λ x. pick up st n x L) is) ∙ e))
          (λ d f x g. prefers_of st x d x (some-injective d x (sym f ∙ g)) (prefers-refl st x))
          (λ d f. (a, refl)) (λ h. (a, refl, prefers-total st c a less)) (inl refl)
    ]
    | inr nay ↦
        let is : better up st n (Some a) c ≡ Some a = elim (bool_cases (prefers st c a)) [
          | inl p ↦
              better-some st n a c false true nay p
          | inr p ↦ better-some st n a c false false nay p
        ] in
        found_step st n (Some a) (Some a) c L b
        (found st n (Some a) L b ok (sym (ap (λ x. pick up st n x L) is) ∙ e))
        (λ d f x g. prefers_of st x d x (some-injective d x (sym f ∙ g)) (prefers-refl st x))
        (λ d f. (a, refl)) (λ h. absurd (not_both _ nay h)) (inl refl)
  ]

  pub fit_found : (st : Strategy) (n : ℕ) (L : List Header) (b : Header) → pick up st n None L ≡ Some b →
      IsFit up st n L b × ((P : List Header) × (Q : List Header) × (L ≡ P ++ b ∷ Q))
  fit_found st n L b e =
      let f = found st n None L b (λ c g. absurd (none≢some c g)) e in
      (record { fit = f.fit; preferred = f.over_all }, elim f.there [ inl g ↦ absurd (none≢some b g) | inr r ↦ r ])

  pick-some : (st : Strategy) (n : ℕ) (a : Header) (L : List Header) → (x : Header) × (pick up st n (Some a) L ≡ Some x)
  pick-some st n a [] = (a, refl)
  pick-some st n a (c ∷ L) = elim (bool_cases (fits up st n c)) [
    | inr nay ↦ (let x = pick-some st n a L in (
      x.0,
      ap (λ z. pick up st n z L) (elim (bool_cases (prefers st c a)) [
        | inl p ↦
            better-some st n a c false true nay p
        | inr p ↦ better-some st n a c false false nay p
      ]) ∙ x.1,
    ))
    | inl fit ↦ elim (bool_cases (prefers st c a)) [
      | inl p ↦ (let x = pick-some st n c L in
          (x.0, ap (λ z. pick up st n z L) (better-some st n a c true true fit p) ∙ x.1))
      | inr p ↦ (let x = pick-some st n a L in
          (x.0, ap (λ z. pick up st n z L) (better-some st n a c true false fit p) ∙ x.1))
    ]
  ]

  pub none_found : (st : Strategy) (n : ℕ) (L : List Header) → pick up st n None L ≡ None → (b : Header) → IsIn b L →
      IsTrue (fits up st n b) → ⊥
  none_found st n [] e b i h = i
  none_found st n (c ∷ L) e b i h = elim (bool_cases (fits up st n c)) [
    | inl fit ↦ (let x = pick-some st n c L in none≢some x.0 (sym e
        ∙ ap (λ z. pick up st n z L) (better-none st n c true fit) ∙ x.1))
    | inr nay ↦ elim i [
      | inl s ↦ not_both _ nay (fits_of st n b c s h)
      | inr r ↦ none_found st n L (sym (ap (λ z. pick up st n z L) (better-none st n c false nay)) ∙ e) b r h
    ]
  ]
