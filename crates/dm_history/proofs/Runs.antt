-- Runs are steps: what becomes a state becomes the one after a run from it; and runs one after the other are one.
use Rattle.std.proofs.Common.{◌≡◌, ◌≢◌, ℕ, ◌+◌, ◌-◌, ◌^◌, ◌≤◌, ◌<◌, List, Option, Some, None, refl, sym, ◌∙◌, ap, subst, arith}
use Rattle.dm_services.specs.declared.state.stop.Stop.{Stop}
use Rattle.dm_services.specs.declared.state.stop.Stop.TheVariants.{Exited, Steps as AllSteps, Memory as NoMemory}
use Rattle.dm_services.specs.state.State.{State, Answer, stop_at}
use Rattle.dm_machine.specs.Step.{MakesStep}
use Rattle.dm_machine.specs.Run.{Answers, Goes, here, further, IsRun, over, whole, cut}
use Rattle.dm_history.specs.declared.change.TimedChange.{TimedChange}
use Rattle.dm_history.specs.Timelines.{Timeline}
use Rattle.dm_history.specs.Becomes.{BecomesBy, stepped, HasStepTo, on, end}
use Rattle.dm_history.proofs.Counts.{counted, IsEarly, Counts, goes, ends, stays, steps-count, ended-stays, ended-step}
use Rattle.dm_history.proofs.Counts as counts
use Rattle.dm_history.proofs.Leading.{none≢some, same-some, leads-steps}

pub goes-becomes : (o s t : State) (es : List TimedChange) (n : ℕ) → BecomesBy o es s → Goes s n t → BecomesBy o es t
goes-becomes o s _ es _ b here = b
goes-becomes o s _ es _ b (further n t u g h) = stepped es t u (goes-becomes o s t es n b g) (on h)

-- a step that stops leaves the state, or ends the program
data Stopped (s t : State) : Type 0 where
  same : t ≡ s → Stopped s t
  ended : HasStepTo s t → Stopped s t

stopped-by : (s t : State) (stop : Stop) → s.exited ≡ None → MakesStep s (record { stop = Some stop; state = t }) →
    Counts s (record { stop = Some stop; state = t }) → Stopped s t
stopped-by s t stop n h (goes e f g) = absurd (none≢some stop (sym e))
stopped-by s t stop n h (ends code e f g) =
    ended (end code n (subst (λ (o : Option Stop). MakesStep s (record { stop = o; state = t })) e h))
stopped-by s t stop n h (counts.over code e f) = absurd (none≢some code (sym n ∙ e))
stopped-by s t stop n h (stays why p f) = same (ap (λ (x : Answer). x.state) f)

stopped-at : (s t : State) (stop : Stop) (o : Option ℕ) → s.exited ≡ o →
    MakesStep s (record { stop = Some stop; state = t }) → Stopped s t
stopped-at s t stop None e h = stopped-by s t stop e h (steps-count s _ h)
stopped-at s t stop (Some code) e h = same (ap (λ (x : Answer). x.state) (ended-stays s code _ e h))

stopped : (s t : State) (stop : Stop) → Answers s (Some stop) t → Stopped s t
stopped s t NoMemory h = same h.1
stopped s t stop h = stopped-at s t stop s.exited refl h

stopped-becomes : (o s t : State) (es : List TimedChange) → BecomesBy o es s → Stopped s t → BecomesBy o es t
stopped-becomes o s t es b (same e) = subst (BecomesBy o es) (sym e) b
stopped-becomes o s t es b (ended h) = stepped es s t b h

pub run-becomes : (o s t : State) (es : List TimedChange) (n : ℕ) (stop : Stop) → BecomesBy o es s → IsRun s n stop t →
    BecomesBy o es t
run-becomes o s t es n stop b (over code e f g) = subst (BecomesBy o es) (sym g) b
run-becomes o s t es n stop b (whole e f g) = goes-becomes o s t es n b g
run-becomes o s t es n stop b (cut e w) =
    stopped-becomes o w.before t es (goes-becomes o s w.before es w.made b w.goes) (stopped w.before t stop w.answers)

-- ---- no run makes fewer steps

pub leads-rise : (s t : State) → s.steps ≤ 2 ^ 64 - 1 → HasStepTo s t → (s.steps ≤ t.steps) × (t.steps ≤ 2 ^ 64 - 1)
leads-rise s t l h = let e = leads-steps s t h in (omega (arith, e), omega (arith, e))

pub goes-rise : (s t : State) (n : ℕ) → s.steps ≤ 2 ^ 64 - 1 → Goes s n t → (s.steps ≤ t.steps) × (t.steps ≤ 2 ^ 64 - 1)
goes-rise s _ _ l here = (omega arith, l)
goes-rise s _ _ l (further n t u g h) =
    let before = goes-rise s t n l g in
    let next = leads-rise t u before.1 (on h) in
    (omega (arith, before.0, next.0), next.1)

stopped-rise : (s t : State) → s.steps ≤ 2 ^ 64 - 1 → Stopped s t → s.steps ≤ t.steps
stopped-rise s t l (same e) = let f = ap (λ (u : State). u.steps) e in omega (arith, f)
stopped-rise s t l (ended h) = (leads-rise s t l h).0

pub run-rises : (s t : State) (n : ℕ) (stop : Stop) → s.steps ≤ 2 ^ 64 - 1 → IsRun s n stop t → s.steps ≤ t.steps
run-rises s t n stop l (over code e f g) = let h = ap (λ (u : State). u.steps) g in omega (arith, h)
run-rises s t n stop l (whole e f g) = (goes-rise s t n l g).0
run-rises s t n stop l (cut e w) =
    let before = goes-rise s w.before w.made l w.goes in
    let next = stopped-rise w.before t before.1 (stopped w.before t stop w.answers) in
    omega (arith, before.0, next)

-- ---- runs one after the other

pub record Whole (s : State) (n : ℕ) (t : State) : Type 0 where
  pub alive : s.exited ≡ None
  pub goes : Goes s n t

no-last : (s t : State) → Counts s (record { stop = Some AllSteps; state = t }) → ⊥
no-last s t (goes e f g) = none≢some AllSteps (sym e)
no-last s t (ends code e f g) = let no : AllSteps ≡ Exited code = same-some AllSteps (Exited code) e in cc
no-last s t (counts.over code e f) = let no : AllSteps ≡ Exited code =
    same-some AllSteps (Exited code) (ap (λ (x : Answer). x.stop) f) in cc
no-last s t (stays stop p f) = subst IsEarly (sym (same-some AllSteps stop (ap (λ (x : Answer). x.stop) f))) p

pub all-made : (s t : State) (n : ℕ) (stop : Stop) → stop ≡ AllSteps → IsRun s n stop t → Whole s n t
all-made s t n stop a (over code e f g) = let no : AllSteps ≡ Exited code = sym a ∙ f in absurd (cc)
all-made s t n stop a (whole e f g) = record { alive = e; goes = g }
all-made s t n stop a (cut e w) =
    let last : Answers w.before (Some AllSteps) t = subst (λ (why : Stop). Answers w.before (Some why) t) a w.answers in
    absurd (no-last w.before t (steps-count w.before _ last))

goes-join : (s t u : State) (m n : ℕ) → Goes s m t → Goes t n u → Goes s (m + n) u
goes-join s t _ m _ g here = let e : m ≡ m + 0 = omega arith in subst (λ k. Goes s k t) e g
goes-join s t _ m _ g (further n v u h x) =
    let e : (m + n) + 1 ≡ m + (n + 1) = omega arith in
    subst (λ k. Goes s k u) e (further (m + n) v u (goes-join s t v m n g h) x)

pub runs-join : (s t u : State) (m n : ℕ) (stop : Stop) → 0 < n → IsRun s m AllSteps t → IsRun t n stop u →
    IsRun s (m + n) stop u
runs-join s t u m n stop some r (over code e f g) =
    let a = all-made s t m AllSteps refl r in
    let end : MakesStep t (stop_at (Exited code) t) = ended-step t code e in
    let last : MakesStep t (record { stop = Some (Exited code); state = u }) =
    subst (λ (v : State). MakesStep t (record { stop = Some (Exited code); state = v })) (sym g) end in
    cut a.alive (record {
      made = m;
      before = t;
      fewer = omega arith;
      goes = a.goes;
      answers = subst (λ (why : Stop). Answers t (Some why) u) (sym f) last;
    })
runs-join s t u m n stop some r (whole e f g) = let a = all-made s t m AllSteps refl r in
    whole a.alive f (goes-join s t u m n a.goes g)
runs-join s t u m n stop some r (cut e w) =
    let a = all-made s t m AllSteps refl r in
    let fewer = w.fewer in
    cut a.alive (record {
      made = m + w.made;
      before = w.before;
      fewer = omega (arith, fewer);
      goes = goes-join s t w.before m w.made a.goes w.goes;
      answers = w.answers;
    })

-- a run that stopped early stops there with a higher limit too
pub run-more : (s t : State) (m n : ℕ) (stop : Stop) → m ≤ n → stop ≢ AllSteps → IsRun s m stop t → IsRun s n stop t
run-more s t m n stop l p (over code e f g) = over code e f g
run-more s t m n stop l p (whole e f g) = absurd (p f)
run-more s t m n stop l p (cut e w) =
    let fewer = w.fewer in
    cut e (record {
      made = w.made;
      before = w.before;
      fewer = omega (arith, fewer);
      goes = w.goes;
      answers = w.answers;
    })

pub run-at : (s t : State) (m n : ℕ) (stop : Stop) → m ≡ n → IsRun s m stop t → IsRun s n stop t
run-at s t m n stop e r = subst (λ k. IsRun s k stop t) e r

-- the next part of a run
pub run-on : (s u : State) (most left part : ℕ) (a b : Stop) (q r : Timeline) → a ≡ AllSteps → r ≡ q → 0 < part →
    part ≤ left → left ≤ most → IsRun s (most - left) a q.machine → IsRun r.machine part b u →
    IsRun s (most - (left - part)) b u
run-on s u most left part a b q r e f some few within x y =
    let first : IsRun s (most - left) AllSteps q.machine =
    subst (λ (why : Stop). IsRun s (most - left) why q.machine) e x in
    let next : IsRun q.machine part b u = subst (λ (p : Timeline). IsRun p.machine part b u) f y in
    run-at s u (most - left + part) (most - (left - part)) b (omega arith) (runs-join s q.machine u
    (most - left) part b some first next)
