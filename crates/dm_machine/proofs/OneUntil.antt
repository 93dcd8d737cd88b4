-- A run up to breakpoints has one stop.
use Rattle.std.proofs.Common.{◌≡◌, ◌≢◌, ℕ, ◌<◌, true, false, List, Option, Some, None, sym, ◌∙◌, ap, subst, arith, inl, inr}
use Rattle.std.proofs.lemmas.Bool.{cases_lt}
use Rattle.dm_services.specs.declared.state.stop.Stop.{Stop}
use Rattle.dm_services.specs.declared.state.stop.Stop.TheVariants.{Exited, Steps as AllSteps, Memory as NoMemory}
use Rattle.dm_services.specs.state.State.{State, Answer}
use Rattle.dm_machine.specs.declared.until.Breakpoint.{Breakpoint}
use Rattle.dm_machine.specs.Step.{MakesStep}
use Rattle.dm_machine.specs.Run.{Goes}
use Rattle.dm_machine.specs.Until.{GoesPast, here, further, stands_at, RunsUntil, over, broken, whole, cut, UntilHasOneStop}
use Rattle.dm_machine.proofs.OneRun.{steps-one, goes-one}
use Rattle.dm_machine.proofs.OneStop.{answers-stop, some-none, code-same}
use Rattle.dm_machine.proofs.UntilRuns.{past_goes}

-- a step within such a run
record Within (ps : List Breakpoint) (s : State) (k : ℕ) : Type 0 where
  before : State
  next : State
  goes : Goes s k before
  steps : MakesStep before (record { stop = None; state = next })
  past : stands_at ps next.cpu ≡ false

within : (ps : List Breakpoint) (s t : State) (n k : ℕ) → GoesPast ps s n t → k < n → Within ps s k
within ps s t n k here less = absurd (omega (arith, less))
within ps s t n k (further m u v g h x) less = elim (cases_lt k m) [
  | inl under ↦ within ps s u m k g under
  | inr least ↦
      (let same : m ≡ k = omega (arith, less, least) in
      record { before = u; next = v; goes = subst (λ j. Goes s j u) same (past_goes ps s u m g); steps = h; past = x })
]

-- the step that ends it: it stops, or it leads to a breakpoint
record Ended (ps : List Breakpoint) (s : State) (n : ℕ) (x : Answer) : Type 0 where
  made : ℕ
  before : State
  fewer : made < n
  goes : GoesPast ps s made before
  steps : MakesStep before x
  ends : x.stop ≡ None → stands_at ps x.state.cpu ≡ true

-- no such run goes on beyond the step at which another one ends
not_further : (ps : List Breakpoint) (s t : State) (n m : ℕ) (x : Answer) → GoesPast ps s n t → (e : Ended ps s m x) →
    e.made < n → ⊥
not_further ps s t n m x g e less =
    let v = within ps s t n e.made g less in
    let same : v.before ≡ e.before = goes-one s v.before e.before e.made v.goes
    (past_goes ps s e.before e.made e.goes) in
    let on : MakesStep e.before (record { stop = None; state = v.next }) =
    subst (λ (z : State). MakesStep z (record { stop = None; state = v.next })) same v.steps in
    let one : x ≡ record { stop = None; state = v.next } = steps-one e.before x _ e.steps on in
    let at : stands_at ps x.state.cpu ≡ true = e.ends (ap (λ (y : Answer). y.stop) one) in
    let no : true ≡ false = sym at ∙ ap (λ (y : Answer). stands_at ps y.state.cpu) one ∙ v.past in
    cc

same-made : (ps : List Breakpoint) (s : State) (n : ℕ) (x y : Answer) → (e : Ended ps s n x) → (f : Ended ps s n y) →
    e.made ≡ f.made → x ≡ y
same-made ps s n x y e f same =
    let at : e.before ≡ f.before
    = goes-one s e.before f.before f.made (subst (λ k. Goes s k e.before) same (past_goes ps s e.before e.made e.goes))
    (past_goes ps s f.before f.made f.goes) in
    steps-one f.before x y (subst (λ (z : State). MakesStep z x) at e.steps) f.steps

ended-one : (ps : List Breakpoint) (s : State) (n : ℕ) (x y : Answer) → Ended ps s n x → Ended ps s n y → x ≡ y
ended-one ps s n x y e f = elim (cases_lt e.made f.made) [
  | inl less ↦ absurd (not_further ps s f.before f.made n x f.goes e less)
  | inr least ↦
      elim (cases_lt f.made e.made) [
        | inl less ↦ absurd (not_further ps s e.before e.made n y e.goes f less)
        | inr most ↦ same-made ps s n x y e f (omega (arith, least, most))
      ]
]

-- how such a run ends that meets no want of memory
data Ends (ps : List Breakpoint) (s : State) (n : ℕ) (stop : Option Stop) (t : State) : Type 0 where
  was_over : (code : ℕ) → s.exited ≡ Some code → stop ≡ Some (Exited code) → t ≡ s → Ends ps s n stop t
  all_made : s.exited ≡ None → stop ≡ Some AllSteps → GoesPast ps s n t → Ends ps s n stop t
  ended : s.exited ≡ None → Ended ps s n (record { stop = stop; state = t }) → Ends ps s n stop t

not-none : (o : Option Stop) (why : Stop) (A : Type 0) → o ≡ Some why → o ≡ None → A
not-none o why A e f = absurd (some-none o why e f)

ends : (ps : List Breakpoint) (s t : State) (n : ℕ) (stop : Option Stop) → stop ≢ Some NoMemory →
    RunsUntil s n ps stop t → Ends ps s n stop t
ends ps s t n stop p (over code e f g) = was_over code e f g
ends ps s t n stop p (broken before e f c h x) =
    ended e (record {
      made = c.made;
      before = before;
      fewer = c.fewer;
      goes = c.goes;
      steps = subst (λ (o : Option Stop). MakesStep before (record { stop = o; state = t })) (sym f) h;
      ends = λ _. x;
    })
ends ps s t n stop p (whole e f g) = all_made e f g
ends ps s t n stop p (cut why before e f c a) =
    let other : why ≢ NoMemory = λ (m : why ≡ NoMemory). p (f ∙ ap Some m) in
    ended e (record {
      made = c.made;
      before = before;
      fewer = c.fewer;
      goes = c.goes;
      steps = subst (λ (o : Option Stop). MakesStep before (record { stop = o; state = t })) (sym f)
          (answers-stop before why t other a);
      ends = λ none. not-none stop why _ f none;
    })

ends-one : (ps : List Breakpoint) (s t u : State) (n : ℕ) (a b : Option Stop) → Ends ps s n a t → Ends ps s n b u →
    (a ≡ b) × (t ≡ u)
ends-one ps s t u n a b (was_over c e f g) (was_over d h i j) =
    (f ∙ ap (λ k. Some (Exited k)) (code-same s.exited c d e h) ∙ sym i, g ∙ sym j)
ends-one ps s t u n a b (was_over c e f g) (all_made h i j) = absurd (some-none s.exited c e h)
ends-one ps s t u n a b (was_over c e f g) (ended h x) = absurd (some-none s.exited c e h)
ends-one ps s t u n a b (all_made e f g) (was_over c h i j) = absurd (some-none s.exited c h e)
ends-one ps s t u n a b (all_made e f g) (all_made h i j) =
    (f ∙ sym i, goes-one s t u n (past_goes ps s t n g) (past_goes ps s u n j))
ends-one ps s t u n a b (all_made e f g) (ended h x) = let fewer = x.fewer in
    absurd (not_further ps s t n n _ g x fewer)
ends-one ps s t u n a b (ended e x) (was_over c h i j) = absurd (some-none s.exited c h e)
ends-one ps s t u n a b (ended e x) (all_made h i j) = let fewer = x.fewer in
    absurd (not_further ps s u n n _ j x fewer)
ends-one ps s t u n a b (ended e x) (ended h y) =
    let one = ended-one ps s n _ _ x y in
    (ap (λ (z : Answer). z.stop) one, ap (λ (z : Answer). z.state) one)

pub until_one : UntilHasOneStop
until_one s t u n ps a b r q p o = ends-one ps s t u n a b (ends ps s t n a p r) (ends ps s u n b o q)
