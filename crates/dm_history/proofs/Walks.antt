-- On the way from one state to another: the state before the first edit, a state between edits, and those that are
-- left.
use Rattle.std.proofs.Common.{◌≡◌, ℕ, ◌+◌, ◌-◌, ◌^◌, ◌≤◌, ◌<◌, inl, inr, List, [], ◌∷◌, ◌++◌, length, take, drop, None, refl, sym, ◌∙◌, ap, subst, arith}
use Rattle.std.specs.List.{All}
use Rattle.std.proofs.lemmas.Bool.{cases_lt}
use Rattle.std.proofs.lemmas.List.{take-append-le, drop-append-le, take_all, drop_all, take-append-drop, append-nil, length-append, get_or_append_left}
use Rattle.std.proofs.lemmas.List.Elements.{All-head, All-drop, All-weaker, All-same}
use Rattle.dm_services.specs.state.State.{State}
use Rattle.dm_machine.specs.Run.{Goes, here, further}
use Rattle.dm_history.specs.declared.change.Change.{Change}
use Rattle.dm_history.specs.declared.change.TimedChange.{TimedChange}
use Rattle.dm_history.specs.Edits.{changed}
use Rattle.dm_history.specs.Becomes.{BecomesBy, start, edited, stepped}
use Rattle.dm_history.specs.inner.Replays.{AreAfter}
use Rattle.dm_history.proofs.Leading.{leads-steps, leads-alive, leads-on, changed-steps, changed-exited}
use Rattle.dm_history.proofs.OneState.{edit_of, no-snoc, All-last, counted-one, edits-before}

-- ---- the program has not ended before the last step

data IsAlive (x t : State) : Type 0 where
  alive : x.exited ≡ None → IsAlive x t
  same : x.exited ≡ t.exited → x.steps ≡ t.steps → IsAlive x t

is-alive : (x t : State) (es : List TimedChange) → BecomesBy x es t → IsAlive x t
is-alive x _ _ start = same refl refl
is-alive x _ _ (edited es t c b) = elim (is-alive x t es b) [
  | alive e ↦ alive e
  | same e f ↦ same (e ∙ sym (changed-exited c t)) (f ∙ sym (changed-steps c t))
]
is-alive x _ _ (stepped es t u b h) = elim (is-alive x t es b) [
  | alive e ↦ alive e
  | same e f ↦ alive (e ∙ leads-alive t u h)
]

alive-then : (x t : State) → IsAlive x t → x.steps < t.steps → x.exited ≡ None
alive-then x t (alive e) l = e
alive-then x t (same e f) l = absurd (omega (arith, f))

pub alive-before : (x t : State) (es : List TimedChange) → BecomesBy x es t → x.steps < t.steps → x.exited ≡ None
alive-before x t es b l = alive-then x t (is-alive x t es b) l

-- ---- steps without edits

-- n steps lead from s to t, and neither is the end of the program
pub record Gone (s t : State) : Type 0 where
  pub made : ℕ
  pub goes : Goes s made t
  pub steps : s.steps + made ≡ t.steps
  pub alive : s.exited ≡ None

pub all-goes : (s t : State) (es : List TimedChange) → BecomesBy s es t → es ≡ [] → t.exited ≡ None →
    t.steps < 2 ^ 64 - 1 → Gone s t
all-goes s _ _ start e n l = record { made = 0; goes = here; steps = omega arith; alive = n }
all-goes s _ _ (edited es t c b) e n l = absurd (no-snoc es (edit_of t c) e)
all-goes s _ _ (stepped es t u b h) e n l =
    let next = counted-one t u h l in
    let before = all-goes s t es b e (leads-alive t u h) (omega (arith, next)) in
    let count = before.steps in
    record {
      made = before.made + 1;
      goes = further before.made t u before.goes (leads-on t u h n);
      steps = omega (arith, next, count);
      alive = before.alive;
    }

-- ---- up to the first edit

pub record Front (s : State) (e : TimedChange) (rest : List TimedChange) (t : State) : Type 0 where
  pub before : State
  pub becomes : BecomesBy s [] before
  pub steps : before.steps ≡ e.step
  pub on : BecomesBy (changed e.change before) rest t

front-edited : (s t : State) (c : Change) (e : TimedChange) (rest es : List TimedChange) → BecomesBy s es t →
    ((f : TimedChange) (fs : List TimedChange) → es ≡ f ∷ fs → Front s f fs t) → es ++ edit_of t c ∷ [] ≡ e ∷ rest →
    Front s e rest (changed c t)
front-edited s t c e rest [] b ih q =
    let same : edit_of t c ≡ e = cc in
    let none : [] ≡ rest = cc in
    record {
      before = t;
      becomes = b;
      steps = ap (λ (z : TimedChange). z.step) same;
      on = subst (λ (es : List TimedChange). BecomesBy (changed e.change t) es (changed c t)) none
          (subst (λ (z : TimedChange). BecomesBy (changed z.change t) [] (changed c t)) same start);
    }
front-edited s t c e rest (f ∷ fs) b ih q =
    let same : f ≡ e = cc in
    let tail : fs ++ edit_of t c ∷ [] ≡ rest = cc in
    let x = ih f fs refl in
    record {
      before = x.before;
      becomes = x.becomes;
      steps = x.steps ∙ ap (λ (z : TimedChange). z.step) same;
      on = subst (λ (es : List TimedChange). BecomesBy (changed e.change x.before) es (changed c t)) tail
          (subst (λ (z : TimedChange). BecomesBy (changed z.change x.before) (fs ++ edit_of t c
          ∷ []) (changed c t)) same (edited fs t c x.on));
    }

pub front : (s t : State) (es : List TimedChange) (e : TimedChange) (rest : List TimedChange) → BecomesBy s es t →
    es ≡ e ∷ rest → Front s e rest t
front s _ _ e rest start q = let no : [] ≡ e ∷ rest = q in absurd (cc)
front s _ _ e rest (edited es t c b) q = front-edited s t c e rest es b (λ f fs p. front s t es f fs b p) q
front s _ _ e rest (stepped es t u b h) q =
    let x = front s t es e rest b q in
    record { before = x.before; becomes = x.becomes; steps = x.steps; on = stepped rest t u x.on h }

-- ---- a count before the first edit

pub record Midway (s : State) (step : ℕ) : Type 0 where
  pub at : State
  pub becomes : BecomesBy s [] at
  pub steps : at.steps ≡ step
  pub alive : at.exited ≡ None

pub fewer-after : (step : ℕ) (es : List TimedChange) (x : TimedChange) → AreAfter step (es ++ x ∷ []) → AreAfter step es
fewer-after step [] x h = tt
fewer-after step (e ∷ es) x h = h

pub no-edits : (s t : State) (step : ℕ) (es : List TimedChange) → BecomesBy s es t → t.steps ≡ step →
    step < 2 ^ 64 - 1 → AreAfter step es → BecomesBy s [] t
no-edits s t step [] b e l a = b
no-edits s t step (x ∷ xs) b e l a =
    let first : x.step ≤ t.steps = All-head (λ z. z.step ≤ t.steps) x xs (edits-before s t (x
    ∷ xs) b (omega (arith, e))) in
    absurd (omega (arith, first, e, a))

pub midway : (s t : State) (es : List TimedChange) (step : ℕ) → BecomesBy s es t → step < 2 ^ 64 - 1 → s.steps ≤ step →
    step < t.steps → AreAfter step es → Midway s step
midway s _ _ step start l b a h = absurd (omega (arith, b, a))
midway s _ _ step (edited es t c x) l b a h =
    let e = changed-steps c t in
    midway s t es step x l b (omega (arith, e, a)) (fewer-after step es (edit_of t c) h)
midway s _ _ step (stepped es t u x g) l b a h = elim (cases_lt step t.steps) [
  | inl less ↦ midway s t es step x l b less h
  | inr more ↦
      let e = leads-steps t u g in
      let now : t.steps ≡ step = omega (arith, e, more, a) in
      record { at = t; becomes = no-edits s t step es x now l h; steps = now; alive = leads-alive t u g }
]

-- ---- a state by its count and the number of edits done

pub record Split (o : State) (es : List TimedChange) (k step : ℕ) (t : State) : Type 0 where
  pub at : State
  pub before : BecomesBy o (take k es) at
  pub after : BecomesBy at (drop k es) t
  pub steps : at.steps ≡ step

All-left : (P : TimedChange → Type 0) (xs ys : List TimedChange) → All P (xs ++ ys) → All P xs
All-left P xs ys h = λ k d l. subst P (get_or_append_left xs ys d k l) (h k d (omega (arith, length-append xs ys)))

pub none-both : (step : ℕ) (xs : List TimedChange) → All (λ e. step ≤ e.step) xs → All (λ e. e.step < step) xs → xs ≡ []
none-both step [] a b = refl
none-both step (x ∷ xs) a b =
    let low = All-head (λ e. step ≤ e.step) x xs a in
    let high = All-head (λ e. e.step < step) x xs b in
    absurd (omega (arith, low, high))

-- all edits are done, and no step is left
all-done : (o t : State) (es : List TimedChange) (k : ℕ) → BecomesBy o es t → take k es ≡ es → drop k es ≡ [] →
    Split o es k t.steps t
all-done o t es k b e f = record {
  at = t;
  before = subst (λ (xs : List TimedChange). BecomesBy o xs t) (sym e) b;
  after = subst (λ (xs : List TimedChange). BecomesBy t xs t) (sym f) start;
  steps = refl;
}

at-step : (o t : State) (es : List TimedChange) (k m n : ℕ) → m ≡ n → Split o es k m t → Split o es k n t
at-step o t es k m n e s = subst (λ j. Split o es k j t) e s

more-edits : (o t : State) (es : List TimedChange) (c : Change) (k step : ℕ) → k ≤ length es → Split o es k step t →
    Split o (es ++ edit_of t c ∷ []) k step (changed c t)
more-edits o t es c k step l s = record {
  at = s.at;
  before = subst (λ (xs : List TimedChange). BecomesBy o xs s.at) (sym (take-append-le k es (edit_of t c ∷ []) l))
      s.before;
  after = subst (λ (xs : List TimedChange). BecomesBy s.at xs (changed c t)) (sym (drop-append-le k es (edit_of t c
      ∷ []) l)) (edited (drop k es) t c s.after);
  steps = s.steps;
}

pub split : (o t : State) (es : List TimedChange) (k step : ℕ) → BecomesBy o es t → k ≤ length es → step < 2 ^ 64 - 1 →
    o.steps ≤ step → step ≤ t.steps →
    All (λ e. e.step ≤ step) (take k es) → All (λ e. step ≤ e.step) (drop k es) → Split o es k step t
split o _ _ k step start l m a b p q = at-step o o [] k o.steps step (omega (
  arith,
  a,
  b,
)) (all-done o o [] k start (take_all k [] (omega arith)) (drop_all k [] (omega arith)))
split o _ _ k step (edited es t c x) l m a b p q = elim (cases_lt (length es) k) [
  | inl all ↦
      let e = changed-steps c t in
      let whole = es ++ edit_of t c ∷ [] in
      let long : length whole ≤ k = omega (arith, all, length-append es (edit_of t c ∷ [])) in
      let made = take_all k whole long in
      let last : t.steps ≤ step = All-last (λ z. z.step ≤ step) es (edit_of t c) (All-same (λ z. z.step
      ≤ step) whole (take k whole) (sym made) p) in
      at-step o (changed c t) whole k (changed c t).steps step (omega (arith, e, b, last))
      (all-done o (changed c t) whole k (edited es t c x) made (drop_all k whole long))
  | inr few ↦
      let e = changed-steps c t in
      let add = edit_of t c ∷ [] in
      let p2 : All (λ z. z.step ≤ step) (take k es) = All-same (λ z. z.step ≤ step) (take k es) (take k (es
      ++ add)) (sym (take-append-le k es add few)) p in
      let q2 : All (λ z. step ≤ z.step) (drop k es ++ add) = All-same (λ z. step ≤ z.step) (drop k es
      ++ add) (drop k (es ++ add)) (sym (drop-append-le k es add few)) q in
      more-edits o t es c k step few (split o t es k step x few m a (omega (arith, e, b)) p2
      (All-left (λ z. step ≤ z.step) (drop k es) add q2))
]
split o _ _ k step (stepped es t u x g) l m a b p q = elim (cases_lt t.steps step) [
  | inl over ↦
      let e = leads-steps t u g in
      let now : u.steps ≡ step = omega (arith, e, over, b, m) in
      let before = edits-before o t es x (omega (arith, over, m)) in
      let none : drop k es ≡ [] = none-both step (drop k es) q (All-drop (λ z. z.step < step) k es
      (All-weaker (λ z. z.step ≤ t.steps) (λ z. z.step < step) (λ z h. omega (arith, h, over)) es before)) in
      let all : take k es ≡ es = sym (append-nil (take k es)) ∙ ap (λ (xs : List TimedChange). take k es
      ++ xs) (sym none) ∙ take-append-drop k es in
      at-step o u es k u.steps step now (all-done o u es k (stepped es t u x g) all none)
  | inr under ↦
      let s = split o t es k step x l m a under p q in
      record { at = s.at; before = s.before; after = stepped (drop k es) t u s.after g; steps = s.steps }
]
