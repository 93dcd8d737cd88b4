-- By the same edits and as many steps one state comes from another.
use Rattle.std.proofs.Common.{◌≡◌, ◌+◌, ◌-◌, ◌^◌, ◌≤◌, ◌<◌, List, [], ◌∷◌, ◌++◌, refl, sym, ◌∙◌, ap, subst, arith}
use Rattle.std.specs.List.{All}
use Rattle.std.proofs.lemmas.List.Elements.{All-nil, All-head, All-tail, All-push, All-weaker, All-same}
use Rattle.dm_services.specs.state.State.{State}
use Rattle.dm_history.specs.declared.change.Change.{Change}
use Rattle.dm_history.specs.declared.change.TimedChange.{TimedChange}
use Rattle.dm_history.specs.Edits.{changed}
use Rattle.dm_history.specs.Becomes.{BecomesBy, start, edited, stepped, HasStepTo}
use Rattle.dm_history.specs.Laws.{ThereIsOneState}
use Rattle.dm_history.proofs.Leading.{leads-steps, leads-one, changed-steps}

-- the edit of a change made now
abbrev pub edit_of : State → Change → TimedChange
edit_of t c = record { step = t.steps; change = c }

-- ---- lists with one more edit

pub no-snoc : {A : Type 0} (xs : List A) (x : A) → xs ++ x ∷ [] ≡ [] → ⊥
no-snoc [] x e = cc
no-snoc (y ∷ ys) x e = cc

head-same : {A : Type 0} (x y : A) (xs ys : List A) → x ∷ xs ≡ y ∷ ys → x ≡ y
head-same x y xs ys e = cc

tail-same : {A : Type 0} (x y : A) (xs ys : List A) → x ∷ xs ≡ y ∷ ys → xs ≡ ys
tail-same x y xs ys e = cc

pub snoc-front : {A : Type 0} (xs ys : List A) (x y : A) → xs ++ x ∷ [] ≡ ys ++ y ∷ [] → xs ≡ ys
snoc-front [] [] x y e = refl
snoc-front [] (b ∷ bs) x y e = absurd (no-snoc bs y (sym (tail-same x b [] (bs ++ y ∷ []) e)))
snoc-front (a ∷ as') [] x y e = absurd (no-snoc as' x (tail-same a y (as' ++ x ∷ []) [] e))
snoc-front (a ∷ as') (b ∷ bs) x y e =
    let h : a ≡ b = head-same a b (as' ++ x ∷ []) (bs ++ y ∷ []) e in
    let t : as' ≡ bs = snoc-front as' bs x y (tail-same a b (as' ++ x ∷ []) (bs ++ y ∷ []) e) in
    cc

pub snoc-last : {A : Type 0} (xs ys : List A) (x y : A) → xs ++ x ∷ [] ≡ ys ++ y ∷ [] → x ≡ y
snoc-last [] [] x y e = head-same x y [] [] e
snoc-last [] (b ∷ bs) x y e = absurd (no-snoc bs y (sym (tail-same x b [] (bs ++ y ∷ []) e)))
snoc-last (a ∷ as') [] x y e = absurd (no-snoc as' x (tail-same a y (as' ++ x ∷ []) [] e))
snoc-last (a ∷ as') (b ∷ bs) x y e = snoc-last as' bs x y (tail-same a b (as' ++ x ∷ []) (bs ++ y ∷ []) e)

pub All-last : (P : TimedChange → Type 0) (xs : List TimedChange) (x : TimedChange) → All P (xs ++ x ∷ []) → P x
All-last P [] x h = All-head P x [] h
All-last P (y ∷ ys) x h = All-last P ys x (All-tail P y (ys ++ x ∷ []) h)

-- ---- counts below 2^64 - 1

-- a step that leads to such a count adds one
pub counted-one : (t u : State) → HasStepTo t u → u.steps < 2 ^ 64 - 1 → u.steps ≡ t.steps + 1
counted-one t u h l = let e = leads-steps t u h in omega (arith, e)

pub rises : (s t : State) (es : List TimedChange) → BecomesBy s es t → t.steps < 2 ^ 64 - 1 → s.steps ≤ t.steps
rises s _ _ start l = omega arith
rises s _ _ (edited es t c b) l =
    let e = changed-steps c t in
    let before = rises s t es b (omega (arith, e)) in
    omega (arith, e, before)
rises s _ _ (stepped es t u b h) l =
    let e = counted-one t u h l in
    let before = rises s t es b (omega (arith, e)) in
    omega (arith, e, before)

-- the edits were made up to now
pub edits-before : (s t : State) (es : List TimedChange) → BecomesBy s es t → t.steps < 2 ^ 64 - 1 →
    All (λ e. e.step ≤ t.steps) es
edits-before s _ _ start l = All-nil (λ e. e.step ≤ s.steps)
edits-before s _ _ (edited es t c b) l =
    let e = changed-steps c t in
    let before = edits-before s t es b (omega (arith, e)) in
    let raised : All (λ e. e.step ≤ (changed c t).steps) es =
    All-weaker (λ e. e.step ≤ t.steps) (λ e. e.step ≤ (changed c t).steps) (λ x h. omega (arith, e, h)) es before in
    All-push (λ e. e.step ≤ (changed c t).steps) es (edit_of t c) raised (omega (arith, e))
edits-before s _ _ (stepped es t u b h) l =
    let e = counted-one t u h l in
    let before = edits-before s t es b (omega (arith, e)) in
    All-weaker (λ e. e.step ≤ t.steps) (λ e. e.step ≤ u.steps) (λ x h. omega (arith, e, h)) es before

-- no edit was made after the last step
not-now : (s t u v : State) (es fs : List TimedChange) (c : Change) → BecomesBy s fs t → HasStepTo t u → es
    ++ edit_of v c ∷ [] ≡ fs → v.steps ≡ u.steps → u.steps < 2 ^ 64 - 1 → ⊥
not-now s t u v es fs c b h e f l =
    let next = counted-one t u h l in
    let before : All (λ x. x.step ≤ t.steps) (es ++ edit_of v c ∷ []) = All-same (λ x. x.step ≤ t.steps) (es
    ++ edit_of v c ∷ []) fs e (edits-before s t fs b (omega (arith, next))) in
    let last : v.steps ≤ t.steps = All-last (λ x. x.step ≤ t.steps) es (edit_of v c) before in
    omega (arith, next, last, f)

-- no step was made after a start with as many
not-then : (s t u : State) (es : List TimedChange) → BecomesBy s es t → HasStepTo t u → s.steps ≡ u.steps →
    u.steps < 2 ^ 64 - 1 → ⊥
not-then s t u es b h f l =
    let next = counted-one t u h l in
    let before = rises s t es b (omega (arith, next)) in
    omega (arith, next, before, f)

one-state : (s t u : State) (es fs : List TimedChange) → BecomesBy s es t → BecomesBy s fs u → es ≡ fs →
    t.steps ≡ u.steps → u.steps < 2 ^ 64 - 1 → t ≡ u
one-state s _ _ _ _ start start e f l = refl
one-state s _ _ _ _ start (edited fs u d y) e f l = absurd (no-snoc fs (edit_of u d) (sym e))
one-state s _ _ _ fs start (stepped fs' u v y h) e f l = absurd (not-then s u v fs' y h f l)
one-state s _ _ _ _ (edited es t c x) start e f l = absurd (no-snoc es (edit_of t c) e)
one-state s _ _ _ _ (edited es t c x) (edited fs u d y) e f l =
    let a : es ≡ fs = snoc-front es fs (edit_of t c) (edit_of u d) e in
    let b : edit_of t c ≡ edit_of u d = snoc-last es fs (edit_of t c) (edit_of u d) e in
    let k = changed-steps d u in
    let same : t ≡ u = one-state s t u es fs x y a (ap (λ (z : TimedChange). z.step) b) (omega (arith, k)) in
    ap (changed c) same ∙ ap (λ (z : Change). changed z u) (ap (λ (z : TimedChange). z.change) b)
one-state s _ _ _ _ (edited es t c x) (stepped fs u v y h) e f l =
    absurd (not-now s u v t es fs c y h e (sym (changed-steps c t) ∙ f) l)
one-state s _ _ _ _ (stepped es t w x g) start e f l = absurd (not-then s t w es x g (sym f) (omega (arith, f)))
one-state s _ _ _ _ (stepped es t w x g) (edited fs u d y) e f l =
    absurd (not-now s t w u fs es d x g (sym e) (sym (changed-steps d u) ∙ sym f) (omega (arith, f)))
one-state s _ _ _ _ (stepped es t w x g) (stepped fs u v y h) e f l =
    let a = counted-one t w g (omega (arith, f)) in
    let b = counted-one u v h l in
    let same : t ≡ u = one-state s t u es fs x y e (omega (arith, a, b, f)) (omega (arith, b)) in
    leads-one u w v (subst (λ z. HasStepTo z w) same g) h

pub one_state : ThereIsOneState
one_state s t u es b d f l = one-state s t u es es b d refl f l
