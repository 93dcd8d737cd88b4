-- G and T have one answer.
use Rattle.std.proofs.Common.{◌≡◌, ◌≢◌, ℕ, zero, suc, ◌+◌, ◌<◌, List, [], ◌++◌, Some, None, refl, sym, ◌∙◌, ap, subst, arith, inl, inr}
use Rattle.std.proofs.lemmas.Bool.{cases_lt}
use Rattle.dm_services.specs.declared.state.stop.Stop.{Stop}
use Rattle.dm_services.specs.declared.state.stop.Stop.TheVariants.{Memory as NoMemory}
use Rattle.dm_services.specs.state.State.{State, Answer}
use Rattle.dm_machine.specs.Step.{MakesStep}
use Rattle.dm_machine.specs.Run.{Answers, Goes, StopsWithin}
use Rattle.dm_machine.specs.Run as run
use Rattle.dm_machine.proofs.OneRun.{steps-one}
use Rattle.dm_machine.proofs.OneStop.{answers-stop, stop-same, not_beyond}
use Rattle.dm_machine.proofs.OneUntil.{until_one}
use Rattle.dm_views.specs.Registers.{IsRegistersText}
use Rattle.dm_views.proofs.CodeOnce.{registers_once}
use Rattle.dm_debug.specs.Runs.{stop_line, Traces, none, more, whole, cut}
use Rattle.dm_debug.specs.Laws.{GoHasOneAnswer, TraceHasOneAnswer}

-- equal states show one text of their registers
shown_once : (t u : State) (a b : List ℕ) → t ≡ u → IsRegistersText t.cpu t.memory a →
    IsRegistersText u.cpu u.memory b → a ≡ b
shown_once t u a b e x y = registers_once u.cpu u.memory a b (subst (λ (z : State). IsRegistersText z.cpu z.memory a) e
    x) y

both : (a b c d : List ℕ) → a ≡ b → c ≡ d → a ++ c ≡ b ++ d
both a b c d e f = ap (λ (x : List ℕ). x ++ c) e ∙ ap (λ (x : List ℕ). b ++ x) f

pub go_once : GoHasOneAnswer
go_once s t u n points a b x y p q =
    let one = until_one s t u n points x.why y.why x.runs y.runs p q in
    let lines : stop_line x.why ≡ stop_line y.why = ap stop_line one.0 in
    let registers : x.registers ≡ y.registers = shown_once t u x.registers y.registers one.1 x.shown y.shown in
    (x.is ∙ both (stop_line x.why) (stop_line y.why) x.registers y.registers lines registers ∙ sym y.is, one.1)

-- ---- steps that are traced

trace_goes : (s t : State) (n : ℕ) (text : List ℕ) → Traces s n text t → Goes s n t
trace_goes s _ _ _ none = run.here
trace_goes s _ _ _ (more n t u text registers h a shown) = run.further n t u (trace_goes s t n text h) a

-- the last of them
record Last (s : State) (n : ℕ) (out : List ℕ) (u : State) : Type 0 where
  before : State
  told : List ℕ
  registers : List ℕ
  traces : Traces s n told before
  steps : MakesStep before (record { stop = None; state = u })
  shown : IsRegistersText u.cpu u.memory registers
  is : out ≡ told ++ registers

last : (s u : State) (m n : ℕ) (out : List ℕ) → Traces s m out u → m ≡ n + 1 → Last s n out u
last s u m n out none e = absurd (omega arith)
last s u m n out (more k t v text registers h a shown) e =
    let same : k ≡ n = omega arith in
    record {
      before = t;
      told = text;
      registers = registers;
      traces = subst (λ j. Traces s j text t) same h;
      steps = a;
      shown = shown;
      is = refl;
    }

none_told : (s u : State) (m : ℕ) (out : List ℕ) → Traces s m out u → m ≡ 0 → (out ≡ []) × (u ≡ s)
none_told s u m out none e = (refl, refl)
none_told s u m out (more k t v text registers h a shown) e = absurd (omega arith)

traces_once : (s t u : State) (n : ℕ) (a b : List ℕ) → Traces s n a t → Traces s n b u → (a ≡ b) × (t ≡ u)
traces_once s t u zero a b x y =
    let i = none_told s t 0 a x refl in
    let j = none_told s u 0 b y refl in
    (i.0 ∙ sym j.0, i.1 ∙ sym j.1)
traces_once s t u (suc n) a b x y =
    let i = last s t (suc n) n a x (omega arith) in
    let j = last s u (suc n) n b y (omega arith) in
    let one = traces_once s i.before j.before n i.told j.told i.traces j.traces in
    let same : t ≡ u
    = ap (λ (z : Answer). z.state) (steps-one j.before _ _ (subst (λ (v : State). MakesStep v (record {
      stop = None;
      state = t;
    })) one.1 i.steps) j.steps) in (
      i.is ∙ both i.told j.told i.registers j.registers one.0 (shown_once t u i.registers j.registers same i.shown
          j.shown) ∙ sym j.is,
      same,
    )

-- ---- traces that a stop cuts short

-- what a stop ends
record Cut (s : State) (n : ℕ) (text : List ℕ) (t : State) : Type 0 where
  made : ℕ
  before : State
  told : List ℕ
  why : Stop
  other : why ≢ NoMemory
  fewer : made < n
  traces : Traces s made told before
  answers : Answers before (Some why) t
  is : text ≡ told ++ stop_line (Some why)

not_further : (s t v : State) (n m : ℕ) (told text : List ℕ) → Traces s n told t → (c : Cut s m text v) → c.made < n → ⊥
not_further s t v n m told text x c less =
    not_beyond s t v n c.why c.other (trace_goes s t n told x)
    (record {
      made = c.made;
      before = c.before;
      fewer = less;
      goes = trace_goes s c.before c.made c.told c.traces;
      answers = c.answers;
    })

same_made : (s t u : State) (n : ℕ) (a b : List ℕ) → (c : Cut s n a t) → (d : Cut s n b u) → c.made ≡ d.made → (a ≡ b) ×
    (t ≡ u)
same_made s t u n a b c d e =
    let one = traces_once s c.before d.before d.made c.told d.told (subst (λ k. Traces s k c.told c.before) e c.traces)
    d.traces in
    let x : MakesStep d.before (record { stop = Some c.why; state = t })
    = subst (λ (v : State). MakesStep v (record { stop = Some c.why; state = t })) one.1
    (answers-stop c.before c.why t c.other c.answers) in
    let same = steps-one d.before _ _ x (answers-stop d.before d.why u d.other d.answers) in
    let why : c.why ≡ d.why = stop-same c.why d.why _ (ap (λ (z : Answer). z.stop) same) refl in
    let lines : stop_line (Some c.why) ≡ stop_line (Some d.why) = ap (λ (w : Stop). stop_line (Some w)) why in
    (c.is ∙ both c.told d.told _ _ one.0 lines ∙ sym d.is, ap (λ (z : Answer). z.state) same)

cut_once : (s t u : State) (n : ℕ) (a b : List ℕ) → Cut s n a t → Cut s n b u → (a ≡ b) × (t ≡ u)
cut_once s t u n a b c d = elim (cases_lt c.made d.made) [
  | inl less ↦ absurd (not_further s d.before t d.made n d.told a d.traces c less)
  | inr least ↦
      elim (cases_lt d.made c.made) [
        | inl less ↦ absurd (not_further s c.before u c.made n c.told b c.traces d less)
        | inr most ↦ same_made s t u n a b c d (omega (arith, least, most))
      ]
]

pub trace_once : TraceHasOneAnswer
trace_once s t u n a b (whole x) (whole y) p q = traces_once s t u n a b x y
trace_once s t u n a b (whole x) (cut made before told why fewer traces answers is) p q =
    let c : Cut s n b u = record {
      made = made;
      before = before;
      told = told;
      why = why;
      other = λ (e : why ≡ NoMemory). q (ap Some e);
      fewer = fewer;
      traces = traces;
      answers = answers;
      is = is;
    } in
    absurd (not_further s t u n n a b x c fewer)
trace_once s t u n a b (cut made before told why fewer traces answers is) (whole y) p q =
    let c : Cut s n a t = record {
      made = made;
      before = before;
      told = told;
      why = why;
      other = λ (e : why ≡ NoMemory). p (ap Some e);
      fewer = fewer;
      traces = traces;
      answers = answers;
      is = is;
    } in
    absurd (not_further s u t n n b a y c fewer)
trace_once s t u n a b (cut made before told why fewer traces answers is) (cut m r o w f h k i) p q =
    cut_once s t u n a b
    (record {
      made = made;
      before = before;
      told = told;
      why = why;
      other = λ (e : why ≡ NoMemory). p (ap Some e);
      fewer = fewer;
      traces = traces;
      answers = answers;
      is = is;
    })
    (record {
      made = m;
      before = r;
      told = o;
      why = w;
      other = λ (e : w ≡ NoMemory). q (ap Some e);
      fewer = f;
      traces = h;
      answers = k;
      is = i;
    })
