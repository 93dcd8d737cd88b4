-- A run of at most one step, in which no call is served, is a step.
use Rattle.std.proofs.Common.{◌≡◌, ℕ, Some, None, Option, sym, ap, subst, refl, arith}
use Rattle.dm_exec.specs.declared.effect.Next.{Next}
use Rattle.dm_exec.specs.declared.effect.Next.TheVariants.{Go, Halt}
use Rattle.dm_exec.specs.Effect.{effect, next_of}
use Rattle.dm_cpu.specs.Guest.{Guest, guest}
use Rattle.dm_services.specs.declared.state.stop.Stop.{Stop}
use Rattle.dm_services.specs.declared.state.stop.Stop.TheVariants.{Exited, Steps as AllSteps, Halted, Unlisted}
use Rattle.dm_services.specs.state.State.{State, Answer, stop_at}
use Rattle.dm_machine.specs.Step.{MakesStep, ActsUnlessEnded, Instructs, listed, unlisted, after}
use Rattle.dm_machine.specs.Run.{Answers, Goes, here, further, IsRun, over, whole, cut}
use Rattle.dm_machine.proofs.OneRun.{none-made}
use Rattle.dm_findings.specs.Calls.{call_of}
use Rattle.dm_checker.proofs.Acting.{uncalled_acts}

goes_once : (s t : State) (n : ℕ) → Goes s n t → n ≡ 1 → Answers s None t
goes_once s t n here e = absurd (omega arith)
goes_once s t n (further m u v goes h) e = subst (λ x. Answers x None v) (none-made s u m goes (omega arith)) h

-- ---- an instruction stops for a reason of its own

after_other : (s t : State) (n : Next) (g : Guest) → record { stop = Some AllSteps; state = t } ≡ after s n g → ⊥
after_other s t Go g e = (let stop : Some AllSteps ≡ None = ap (λ (x : Answer). x.stop) e in cc)
after_other s t Halt g e = (let stop : Some AllSteps ≡ Some Halted = ap (λ (x : Answer). x.stop) e in cc)

instructs_other : (s t : State) → Instructs s (record { stop = Some AllSteps; state = t }) → ⊥
instructs_other s t (listed i k b e) = after_other s t (next_of i.action.mnemonic) (effect (guest s.cpu s.memory) i k) e
instructs_other s t (unlisted f e) = (let stop : Some AllSteps ≡ Some Unlisted = ap (λ (x : Answer). x.stop) e in cc)

runs_other : (s t : State) (o : Option ℕ) → call_of s.cpu ≡ None → ActsUnlessEnded s o (record {
  stop = Some AllSteps;
  state = t;
}) → ⊥
runs_other s t (Some code) none e = (let stop : Some AllSteps ≡ Some (Exited code) = ap (λ (x : Answer). x.stop) e in
    cc)
runs_other s t None none h = instructs_other s t (uncalled_acts s _ none h)

other_stop : (s t : State) → call_of s.cpu ≡ None → Answers s (Some AllSteps) t → ⊥
unfolding MakesStep
other_stop s t none h = runs_other s t s.exited none h

-- ---- once the program has ended

was_ended : (s t : State) (code : ℕ) → s.exited ≡ Some code → t ≡ s → Answers s (Some (Exited code)) t
unfolding MakesStep
was_ended s t code e same =
    let here : Answers s (Some (Exited code)) s = subst (λ o. ActsUnlessEnded s o (stop_at (Exited code) s))
    (sym e) refl in
    subst (λ u. Answers s (Some (Exited code)) u) (sym same) here

answers_by : (s t : State) (a b : Stop) → a ≡ b → Answers s (Some b) t → Answers s (Some a) t
answers_by s t a b e h = subst (λ x. Answers s (Some x) t) (sym e) h

first_of : (s t u : State) (n : ℕ) (stop : Stop) → Goes s n u → n ≡ 0 → Answers u (Some stop) t →
    Answers s (Some stop) t
first_of s t u n stop goes e h = subst (λ x. Answers x (Some stop) t) (none-made s u n goes e) h

-- ---- both outcomes

pub ran_on : (s t : State) → call_of s.cpu ≡ None → IsRun s 1 AllSteps t → Answers s None t
ran_on s t none (over code e f g) = (let no : AllSteps ≡ Exited code = f in cc)
ran_on s t none (whole e f goes) = goes_once s t 1 goes refl
ran_on s t none (cut e w) = (let less = w.fewer in
    absurd (other_stop s t none (first_of s t w.before w.made AllSteps w.goes (omega arith) w.answers)))

pub ran_out : (s t : State) (stop : Stop) → (stop ≡ AllSteps → ⊥) → IsRun s 1 stop t → Answers s (Some stop) t
ran_out s t stop other (over code e f g) = answers_by s t stop (Exited code) f (was_ended s t code e g)
ran_out s t stop other (whole e f goes) = absurd (other f)
ran_out s t stop other (cut e w) = (let less = w.fewer in first_of s t w.before w.made stop w.goes
    (omega arith) w.answers)
