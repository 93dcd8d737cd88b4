-- The order of blocks, as one comes and one goes.
use Rattle.std.proofs.Common.{◌≡◌, ℕ, zero, suc, ◌+◌, ◌<◌, ◌≤◌, Bool, true, false, cond, List, length, get_or, set, Option, Some, None, refl, sym, ap, ◌∙◌, subst, inl, inr, ◌⊎◌, arith}
use Rattle.std.specs.Prelude.{count_by}
use Rattle.std.specs.List.{insert, remove}
use Rattle.std.proofs.lemmas.Bool.{lt-ltb, le-ltb, cases_lt, cases_order}
use Rattle.std.proofs.Math.Bool.{true≢false}
use Rattle.std.proofs.lemmas.Option.{none-some, same_Some}
use Rattle.std.proofs.lemmas.List.{length-set, get_or-set_same, get_or-set_other}
use Rattle.std.proofs.lemmas.List.Sums.{sum_by-set, count_by-le-length}
use Rattle.std.proofs.lemmas.List.Edits.{get_or-insert_at, get_or-insert_below, get_or-insert_above, get_or-remove_below, get_or-remove_above, length-insert, length-remove}
use Rattle.dm_pool.specs.declared.extent.Extent.{Extent}
use Rattle.dm_pool.specs.Blocks.{Apart}
use Rattle.dm_pool.specs.inner.Order.{has_units, IsNth, IsOrder}
use Rattle.dm_pool.proofs.Blocks.{same_or_not}

true_or_false : (b : Bool) → b ≡ true → b ≡ false → ⊥
true_or_false b t f = true≢false (sym t ∙ f)

-- how many of the places have a block with units, as one changes
count_more : (ps : List (Option Extent)) (k : ℕ) (o : Option Extent) → k < length ps →
    has_units (get_or ps k None) ≡ false → has_units o ≡ true → count_by has_units (set ps k o)
    ≡ count_by has_units ps + 1
count_more ps k o lt old new =
    let one : Option Extent → ℕ = λ x. cond (has_units x) 1 0 in
    let a : one (get_or ps k None) ≡ 0 = ap (λ (b : Bool). cond b 1 0) old in
    let b : one o ≡ 1 = ap (λ (b : Bool). cond b 1 0) new in
    omega (arith, sum_by-set one ps k o None lt, a, b)

count_same : (ps : List (Option Extent)) (k : ℕ) (o : Option Extent) → k < length ps →
    has_units (get_or ps k None) ≡ false → has_units o ≡ false → count_by has_units (set ps k o) ≡ count_by has_units ps
count_same ps k o lt old new =
    let one : Option Extent → ℕ = λ x. cond (has_units x) 1 0 in
    let a : one (get_or ps k None) ≡ 0 = ap (λ (b : Bool). cond b 1 0) old in
    let b : one o ≡ 0 = ap (λ (b : Bool). cond b 1 0) new in
    omega (arith, sum_by-set one ps k o None lt, a, b)

count_less : (ps : List (Option Extent)) (k : ℕ) (o : Option Extent) → k < length ps →
    has_units (get_or ps k None) ≡ true → has_units o ≡ false → count_by has_units (set ps k o) + 1
    ≡ count_by has_units ps
count_less ps k o lt old new =
    let one : Option Extent → ℕ = λ x. cond (has_units x) 1 0 in
    let a : one (get_or ps k None) ≡ 1 = ap (λ (b : Bool). cond b 1 0) old in
    let b : one o ≡ 0 = ap (λ (b : Bool). cond b 1 0) new in
    omega (arith, sum_by-set one ps k o None lt, a, b)

pub unit_block : (b : Extent) → 0 < b.units → has_units (Some b) ≡ true
unit_block b pos = lt-ltb 0 b.units pos

pub no_units : (b : Extent) → b.units ≡ 0 → has_units (Some b) ≡ false
no_units b e = le-ltb 0 b.units (omega (arith, e))

pub vacant_units : (ps : List (Option Extent)) (k : ℕ) → get_or ps k None ≡ None → has_units (get_or ps k None) ≡ false
vacant_units ps k e = ap has_units e

-- where one place is vacant there is room in the order
pub order_room : (ps : List (Option Extent)) (order : List ℕ) (k : ℕ) → IsOrder ps order → k < length ps →
    get_or ps k None ≡ None → length order < length ps
order_room ps order k is lt none =
    let b : Extent = record { base = 0; units = 1 } in
    omega (
      arith,
      is.counted,
      count_more ps k (Some b) lt (vacant_units ps k none) (unit_block b (omega arith)),
      count_by-le-length has_units (set ps k (Some b)),
      length-set ps k (Some b),
    )

-- a block that has units comes
module _ (ps : List (Option Extent)) (order : List ℕ) (k r : ℕ) (b : Extent) (is : IsOrder ps order) (lt : k
    < length ps) (few : length ps ≡ 576) (none : get_or ps k None ≡ None)
    (apart : (i : ℕ) (d : Extent) → get_or ps i None ≡ Some d → Apart d b) (within : r ≤ length order)
    (below : (p : ℕ) (d : Extent) → p < r → IsNth ps order p d → d.base < b.base) (above : (p : ℕ) (d : Extent) →
    r ≤ p → p < length order → IsNth ps order p d → b.base ≤ d.base) (pos : 0 < b.units) where
  abbrev ps' : List (Option Extent)
  ps' = set ps k (Some b)

  abbrev new : List ℕ
  new = insert order r k

  long : length new ≡ length order + 1
  long = length-insert order r k within

  -- a number of the order before is not the new block's
  other : (q : ℕ) → q < length order → ¬ (get_or order q 0 ≡ k)
  other q h e = let live = is.live q h in none-some live.0 (sym none ∙ ap (λ i. get_or ps i None) (sym e) ∙ live.1)

  stays : (p q : ℕ) (d : Extent) → q < length order → get_or new p 0 ≡ get_or order q 0 → IsNth ps' new p d →
      IsNth ps order q d
  stays p q d h e at = sym (get_or-set_other ps k (get_or order q 0) (Some b) None (other q h))
      ∙ ap (λ i. get_or ps' i None) (sym e) ∙ at

  comes : (p q : ℕ) (d : Extent) → q < length order → get_or new p 0 ≡ get_or order q 0 → IsNth ps order q d →
      IsNth ps' new p d
  comes p q d h e at = ap (λ i. get_or ps' i None) e ∙ get_or-set_other ps k (get_or order q 0) (Some b) None
      (other q h) ∙ at

  -- each position of the new order is the new block's, or one of the order before
  abbrev Stands : ℕ → Type 0
  Stands p = ((p ≡ r) × (get_or new p 0 ≡ k)) ⊎ ((p < r) × (get_or new p 0 ≡ get_or order p 0) ⊎
      ((q : ℕ) × (p ≡ q + 1) × (r ≤ q) × (get_or new p 0 ≡ get_or order q 0)))

  past : (p : ℕ) → r < p → (q : ℕ) × (p ≡ q + 1) × (r ≤ q)
  past zero h = absurd (omega (arith, h))
  past (suc q) h = (q, omega arith, omega (arith, h))

  stands : (p : ℕ) → Stands p
  stands p = elim (cases_order p r) [
    | inl e ↦ inl (e, ap (λ i. get_or new i 0) e ∙ get_or-insert_at order r k 0 within)
    | inr c ↦ elim c [
      | inl h ↦ inr (inl (h, get_or-insert_below order r k 0 p h within))
      | inr h ↦ let q = past p h in inr (inr (
        q.0,
        q.1,
        q.2,
        ap (λ i. get_or new i 0) q.1 ∙ get_or-insert_above order r k 0 q.0 q.2 within,
      ))
    ]
  ]

  is_new : (p : ℕ) (d : Extent) → get_or new p 0 ≡ k → IsNth ps' new p d → b ≡ d
  is_new p d e at = same_Some b d (sym (get_or-set_same ps k (Some b) None lt) ∙ ap (λ i. get_or ps' i None) (sym e)
      ∙ at)

  -- a block that begins below the new one ends there, and one that does not begins behind it
  behind : (q : ℕ) (d : Extent) → r ≤ q → q < length order → IsNth ps order q d → b.base + b.units ≤ d.base
  behind q d le h at =
      let low = above q d le h at in let live = is.live q h in let same = same_Some live.0 d (sym live.1 ∙ at) in
      let units = ap (λ (x : Extent). x.units) same in let some = live.2 in
      elim (apart (get_or order q 0) d at) [ inl e ↦ absurd (omega (arith, e, low, units, some)) | inr e ↦ e ]

  before : (q : ℕ) (d : Extent) → q < r → IsNth ps order q d → d.base + d.units ≤ b.base
  before q d h at = let low = below q d h at in elim (apart (get_or order q 0) d at) [
    | inl e ↦ e
    | inr e ↦
        absurd (omega (arith, e, low))
  ]

  old_rising : (p q : ℕ) (d e : Extent) → p < q → q < length order → IsNth ps order p d → IsNth ps order q e →
      d.base + d.units ≤ e.base
  old_rising p q d e = is.rising p q d e

  rises : (p q : ℕ) (d e : Extent) → p < q → q < length new → Stands p → Stands q → IsNth ps' new p d →
      IsNth ps' new q e → d.base + d.units ≤ e.base
  rises p q d e h in' (inl x) (inl y) at to = absurd (omega (arith, h, x.0, y.0))
  rises p q d e h in' (inl x) (inr (inl y)) at to = absurd (omega (arith, h, x.0, y.0))
  rises p q d e h in' (inl x) (inr (inr y)) at to =
      let short : y.0 < length order = omega (arith, in', long, y.1) in
      subst (λ (z : Extent). z.base + z.units ≤ e.base) (is_new p d x.1 at) (behind y.0 e y.2 short
      (stays q y.0 e short y.3 to))
  rises p q d e h in' (inr (inl x)) (inl y) at to =
      let short : p < length order = omega (arith, x.0, within) in
      subst (λ (z : Extent). d.base + d.units ≤ z.base) (is_new q e y.1 to) (before p d x.0 (stays p p d short x.1 at))
  rises p q d e h in' (inr (inl x)) (inr (inl y)) at to =
      let short : q < length order = omega (arith, y.0, within) in let less : p < length order =
      omega (arith, x.0, within) in
      is.rising p q d e h short (stays p p d less x.1 at) (stays q q e short y.1 to)
  rises p q d e h in' (inr (inl x)) (inr (inr y)) at to =
      let short : y.0 < length order = omega (arith, in', long, y.1) in let less : p < length order =
      omega (arith, x.0, within) in
      is.rising p y.0 d e (omega (arith, x.0, y.2)) short (stays p p d less x.1 at) (stays q y.0 e short y.3 to)
  rises p q d e h in' (inr (inr x)) (inl y) at to = absurd (omega (arith, h, x.1, x.2, y.0))
  rises p q d e h in' (inr (inr x)) (inr (inl y)) at to = absurd (omega (arith, h, x.1, x.2, y.0))
  rises p q d e h in' (inr (inr x)) (inr (inr y)) at to =
      let short : y.0 < length order = omega (arith, in', long, y.1) in let less : x.0 < length order =
      omega (arith, h, in', long, x.1) in
      is.rising x.0 y.0 d e (omega (arith, h, x.1, y.1)) short (stays p x.0 d less x.3 at) (stays q y.0 e short y.3 to)

  lives : (p : ℕ) → p < length new → Stands p → (d : Extent) × IsNth ps' new p d × (0 < d.units)
  lives p h (inl x) = (b, ap (λ i. get_or ps' i None) x.1 ∙ get_or-set_same ps k (Some b) None lt, pos)
  lives p h (inr (inl x)) = let short : p < length order = omega (arith, x.0, within) in let l =
      is.live p short in (l.0, comes p p l.0 short x.1 l.1, l.2)
  lives p h (inr (inr x)) = let short : x.0 < length order = omega (arith, h, long, x.1) in let l =
      is.live x.0 short in (l.0, comes p x.0 l.0 short x.3 l.1, l.2)

  fits : (p : ℕ) → p < length new → Stands p → get_or new p 0 < 576
  fits p h (inl x) = omega (arith, x.1, lt, few)
  fits p h (inr (inl x)) = let short : p < length order = omega (arith, x.0, within) in let l =
      is.small p short in omega (arith, x.1, l)
  fits p h (inr (inr x)) = let short : x.0 < length order = omega (arith, h, long, x.1) in let l =
      is.small x.0 short in omega (arith, x.3, l)

  found : (q i : ℕ) → q < length order → get_or order q 0 ≡ i → (p : ℕ) × (p < length new) × (get_or new p 0 ≡ i)
  found q i h e = elim (cases_lt q r) [
    | inl x ↦ (q, omega (arith, h, long), get_or-insert_below order r k 0 q x within ∙ e)
    | inr x ↦ (q + 1, omega (arith, h, long), get_or-insert_above order r k 0 q x within ∙ e)
  ]

  whole : (i : ℕ) (d : Extent) → get_or ps' i None ≡ Some d → 0 < d.units → (p : ℕ) × (p < length new) ×
      (get_or new p 0 ≡ i)
  whole i d at some = elim (same_or_not i k) [
    | inl e ↦ (r, omega (arith, within, long), get_or-insert_at order r k 0 within ∙ sym e)
    | inr ne ↦ let q = is.whole i d (sym (get_or-set_other ps k i (Some b) None ne) ∙ at) some in found q.0 i q.1 q.2
  ]

  pub order_come : IsOrder ps' new
  order_come = record {
    live = λ p h. lives p h (stands p);
    rising = λ p q d e h in' at to. rises p q d e h in' (stands p) (stands q) at to;
    whole = whole;
    counted = omega (arith, long, is.counted, count_more ps k (Some b) lt (vacant_units ps k none) (unit_block b pos));
    small = λ p h. fits p h (stands p);
  }

-- a block with no unit comes, or goes
pub order_same : (ps : List (Option Extent)) (order : List ℕ) (k : ℕ) (o : Option Extent) → IsOrder ps order →
    k < length ps → has_units (get_or ps k None) ≡ false → has_units o ≡ false → IsOrder (set ps k o) order
order_same ps order k o is lt old new =
    let ps' = set ps k o in
    let other : (q : ℕ) → q < length order → ¬ (get_or order q 0 ≡ k) = λ q h e.
    let live = is.live q h in
    let some : has_units (get_or ps k None) ≡ true = ap has_units (ap (λ i. get_or ps i None) (sym e) ∙ live.1)
    ∙ unit_block live.0 live.2 in
    true_or_false (has_units (get_or ps k None)) some old in
    let back : (q : ℕ) (d : Extent) → q < length order → IsNth ps' order q d → IsNth ps order q d =
    λ q d h at. sym (get_or-set_other ps k (get_or order q 0) o None (other q h)) ∙ at in
    record {
      live = λ p h. let l = is.live p h in (
        l.0,
        get_or-set_other ps k (get_or order p 0) o None (other p h) ∙ l.1,
        l.2,
      );
      rising = λ p q d e h in' at to. is.rising p q d e h in' (back p d (omega (arith, h, in')) at) (back q e in' to);
      whole = λ i d at some. elim (same_or_not i k) [
        | inl e ↦ absurd (true_or_false (has_units (Some d)) (unit_block d some) (ap has_units (sym at
            ∙ ap (λ j. get_or ps' j None) e ∙ get_or-set_same ps k o None lt) ∙ new))
        | inr ne ↦ is.whole i d (sym (get_or-set_other ps k i o None ne) ∙ at) some
      ];
      counted = is.counted ∙ sym (count_same ps k o lt old new);
      small = is.small;
    }

-- a block that has units goes
module _ (ps : List (Option Extent)) (order : List ℕ) (k r : ℕ) (b : Extent) (is : IsOrder ps order) (lt : k
    < length ps) (at_k : get_or ps k None ≡ Some b) (pos : 0 < b.units) (within : r ≤ length order)
    (below : (p : ℕ) (d : Extent) → p < r → IsNth ps order p d → d.base < b.base) (above : (p : ℕ) (d : Extent) →
    r ≤ p → p < length order → IsNth ps order p d → b.base ≤ d.base) where
  abbrev gone : List (Option Extent)
  gone = set ps k None

  abbrev rest : List ℕ
  rest = remove order r

  -- the block stands where its rank says
  its_place : (q : ℕ) → q < length order → get_or order q 0 ≡ k → q ≡ r
  its_place q h e =
      let at : IsNth ps order q b = ap (λ i. get_or ps i None) e ∙ at_k in
      elim (cases_order q r) [
        | inl s ↦ s
        | inr c ↦ elim c [
          | inl x ↦ let low = below q b x at in absurd (omega (arith, low))
          | inr x ↦
              let less : r < length order = omega (arith, x, h) in let l = is.live r less in
              let low = above r l.0 (omega arith) less l.1 in let some = l.2 in let rise =
              is.rising r q l.0 b x h l.1 at in
              absurd (omega (arith, low, some, rise))
        ]
      ]

  pub stands_there : (r < length order) × (get_or order r 0 ≡ k)
  stands_there = let q = is.whole k b at_k pos in let e = its_place q.0 q.1 q.2 in
      (omega (arith, e, q.1), ap (λ i. get_or order i 0) (sym e) ∙ q.2)

  shorter : length rest + 1 ≡ length order
  shorter = length-remove order r stands_there.0

  not_k : (q : ℕ) → q < length order → ¬ (q ≡ r) → ¬ (get_or order q 0 ≡ k)
  not_k q h ne e = ne (its_place q h e)

  left : (p q : ℕ) (d : Extent) → q < length order → ¬ (q ≡ r) → get_or rest p 0 ≡ get_or order q 0 →
      IsNth gone rest p d → IsNth ps order q d
  left p q d h ne e at = sym (get_or-set_other ps k (get_or order q 0) None None (not_k q h ne))
      ∙ ap (λ i. get_or gone i None) (sym e) ∙ at

  keeps : (p q : ℕ) (d : Extent) → q < length order → ¬ (q ≡ r) → get_or rest p 0 ≡ get_or order q 0 →
      IsNth ps order q d → IsNth gone rest p d
  keeps p q d h ne e at = ap (λ i. get_or gone i None) e ∙ get_or-set_other ps k (get_or order q 0) None None
      (not_k q h ne) ∙ at

  -- each position of the rest is one of the order before
  abbrev Was : ℕ → Type 0
  Was p = (q : ℕ) × (p ≤ q) × (q ≤ p + 1) × ((p < r) × (q ≡ p) ⊎ (r ≤ p) × (q ≡ p + 1)) ×
      (get_or rest p 0 ≡ get_or order q 0)

  was : (p : ℕ) → Was p
  was p = elim (cases_lt p r) [
    | inl h ↦ (p, omega arith, omega arith, inl (h, refl), get_or-remove_below order r 0 p h stands_there.0)
    | inr h ↦ (p + 1, omega arith, omega arith, inr (h, refl), get_or-remove_above order r 0 p h stands_there.0)
  ]

  was_not : (p : ℕ) → (w : Was p) → ¬ (w.0 ≡ r)
  was_not p w e = elim w.3 [ inl x ↦ absurd (omega (arith, x.0, x.1, e)) | inr x ↦ absurd (omega (arith, x.0, x.1, e)) ]

  was_within : (p : ℕ) → p < length rest → (w : Was p) → w.0 < length order
  was_within p h w = omega (arith, h, shorter, w.2)

  rises_still : (p q : ℕ) (d e : Extent) → p < q → q < length rest → (v : Was p) (w : Was q) → IsNth gone rest p d →
      IsNth gone rest q e → d.base + d.units ≤ e.base
  rises_still p q d e h in' v w at to =
      let less : v.0 < w.0 = elim v.3 [
        | inl x ↦ elim w.3 [ inl y ↦ omega (arith, h, x.1, y.1) | inr y ↦ omega (arith, h, x.1, y.1) ]
        | inr x ↦ elim w.3 [ inl y ↦ absurd (omega (arith, h, x.0, y.0)) | inr y ↦ omega (arith, h, x.1, y.1) ]
      ] in
      is.rising v.0 w.0 d e less (was_within q in' w)
      (left p v.0 d (was_within p (omega (arith, h, in')) v) (was_not p v) v.4 at) (left q w.0 e (was_within q in' w)
      (was_not q w) w.4 to)

  found_still : (q i : ℕ) → q < length order → ¬ (q ≡ r) → get_or order q 0 ≡ i → (p : ℕ) × (p < length rest) ×
      (get_or rest p 0 ≡ i)
  found_still zero i h ne e = elim (cases_lt zero r) [
    | inl x ↦ (zero, omega (arith, stands_there.0, shorter, x), get_or-remove_below order r 0 zero x stands_there.0 ∙ e)
    | inr x ↦ absurd (ne (omega (arith, x)))
  ]
  found_still (suc q) i h ne e = elim (cases_lt (suc q) r) [
    | inl x ↦ (
      suc q,
      omega (arith, stands_there.0, shorter, x),
      get_or-remove_below order r 0 (suc q) x stands_there.0 ∙ e,
    )
    | inr x ↦
        let more : r ≤ q = elim (cases_order (suc q) r) [
          | inl s ↦ absurd (ne s)
          | inr c ↦
              elim c [ inl y ↦ absurd (omega (arith, x, y)) | inr y ↦ omega (arith, y) ]
        ] in
        let next : q + 1 ≡ suc q = omega arith in (
          q,
          omega (arith, h, shorter),
          get_or-remove_above order r 0 q more stands_there.0
              ∙ ap (λ j. get_or order j 0) next ∙ e,
        )
  ]

  whole_still : (i : ℕ) (d : Extent) → get_or gone i None ≡ Some d → 0 < d.units → (p : ℕ) × (p < length rest) ×
      (get_or rest p 0 ≡ i)
  whole_still i d at some = elim (same_or_not i k) [
    | inl e ↦ absurd (none-some d (sym (get_or-set_same ps k None None lt) ∙ ap (λ j. get_or gone j None) (sym e) ∙ at))
    | inr ne ↦
        let q = is.whole i d (sym (get_or-set_other ps k i None None ne) ∙ at) some in
        found_still q.0 i q.1 (λ s. ne (sym q.2 ∙ ap (λ j. get_or order j 0) s ∙ stands_there.1)) q.2
  ]

  pub order_go : IsOrder gone rest
  order_go = record {
    live = λ p h. let w = was p in let l = is.live w.0 (was_within p h w) in
        (l.0, keeps p w.0 l.0 (was_within p h w) (was_not p w) w.4 l.1, l.2);
    rising = λ p q d e h in' at to. rises_still p q d e h in' (was p) (was q) at to;
    whole = whole_still;
    counted = omega (arith, shorter, is.counted, count_less ps k None lt (ap has_units at_k ∙ unit_block b pos) refl);
    small = λ p h. let w = was p in let l = is.small w.0 (was_within p h w) in omega (arith, w.4, l);
  }
