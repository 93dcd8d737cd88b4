-- Single steps, as they are made and told.
use Rattle.std.proofs.Common.{◌≡◌, ℕ, ◌+◌, ◌<◌, List, [], ◌++◌, Option, Some, None, Result, Ok, Err, refl, sym, ◌∙◌, ap, subst, append-nil, append_assoc}
use Rattle.std.specs.Prelude.{OnErr}
use Rattle.dm_services.specs.declared.state.stop.Stop.{Stop}
use Rattle.dm_services.specs.state.State.{State}
use Rattle.dm_machine.specs.declared.until.Breakpoint.{Breakpoint}
use Rattle.dm_machine.specs.Run.{Answers}
use Rattle.dm_machine.specs.Until.{RunsUntil}
use Rattle.dm_views.specs.Registers.{IsRegistersText}
use Rattle.dm_debug.specs.Runs.{stop_line, GoesTo, Traces, none, more, IsTrace, whole, cut, TracesPart, next, stopped}

-- so many steps were made, and told behind what stood there
pub record HasTraced (s : State) (old : List ℕ) (n : ℕ) (out : List ℕ) (t : State) : Type 0 where
  pub text : List ℕ
  pub is : out ≡ old ++ text
  pub traces : Traces s n text t

pub traced_none : (s : State) (old : List ℕ) → HasTraced s old 0 old s
traced_none s old = record { text = []; is = sym (append-nil old); traces = none }

pub traced_more : (s t u : State) (old out new registers : List ℕ) (n : ℕ) → HasTraced s old n out t →
    Answers t None u → new ≡ out ++ registers → IsRegistersText u.cpu u.memory registers → HasTraced s old (n + 1) new u
traced_more s t u old out new registers n h a e r = record {
  text = h.text ++ registers;
  is = e ∙ ap (λ (x : List ℕ). x ++ registers) h.is ∙ append_assoc old h.text registers;
  traces = more n t u h.text registers h.traces a r;
}

-- what a whole trace puts
abbrev pub Told : State → List ℕ → ℕ → List ℕ → State → Type 0
Told s old n out t = (text : List ℕ) × (out ≡ old ++ text) × IsTrace s n text t

pub traced_all : (s t : State) (old out : List ℕ) (n m : ℕ) → HasTraced s old n out t → n ≡ m → Told s old m out t
traced_all s t old out n m h e = (h.text, h.is, whole (subst (λ (k : ℕ). Traces s k h.text t) e h.traces))

pub traced_cut : (s t u : State) (old out new : List ℕ) (n m : ℕ) (why : Stop) → HasTraced s old n out t → n < m →
    Answers t (Some why) u → new ≡ out ++ stop_line (Some why) → Told s old m new u
traced_cut s t u old out new n m why h lt a e = (
  h.text ++ stop_line (Some why),
  e ∙ ap (λ (x : List ℕ). x ++ stop_line (Some why)) h.is ∙ append_assoc old h.text (stop_line (Some why)),
  cut n t h.text why lt h.traces a refl,
)

pub part_next : (s t u : State) (old out : List ℕ) (n m : ℕ) → HasTraced s old n out t → n < m → Answers t None u →
    TracesPart s m u
part_next s t u old out n m h lt a = next n t h.text lt h.traces a

pub part_stopped : (s t u : State) (old out : List ℕ) (n m : ℕ) (why : Stop) → HasTraced s old n out t → n < m →
    Answers t (Some why) u → TracesPart s m u
part_stopped s t u old out n m why h lt a = stopped n t h.text why lt h.traces a

-- what holds in any case holds at an error
pub at_err : {T E P : Type 0} (r : Result T E) → P → OnErr r P
at_err (Ok v) p = tt
at_err (Err e) p = p

-- a run, and the registers behind why it ended
pub goes_told : (s t : State) (old mid new : List ℕ) (n : ℕ) (points : List Breakpoint) (why : Option Stop) →
    RunsUntil s n points why t → mid ≡ old ++ stop_line why → (text : List ℕ) × (new ≡ mid ++ text) ×
    IsRegistersText t.cpu t.memory text → (text : List ℕ) × (new ≡ old ++ text) × GoesTo s n points text t
goes_told s t old mid new n points why r e x = (
  stop_line why ++ x.0,
  x.1 ∙ ap (λ (z : List ℕ). z ++ x.0) e ∙ append_assoc old (stop_line why) x.0,
  record { why = why; registers = x.0; runs = r; shown = x.2; is = refl },
)
