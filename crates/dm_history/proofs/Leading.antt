-- What leads from one state to another: steps are counted, one follows from each state, and edits keep the count.
use Rattle.std.proofs.Common.{◌≡◌, ℕ, Option, Some, None, refl, sym, ◌∙◌, ap, subst}
use Rattle.dm_services.specs.declared.state.stop.Stop.TheVariants.{Exited}
use Rattle.dm_services.specs.state.State.{State, Answer}
use Rattle.dm_machine.specs.Step.{MakesStep}
use Rattle.dm_machine.proofs.OneRun.{steps-one}
use Rattle.dm_history.specs.declared.change.Change.{Change}
use Rattle.dm_history.specs.declared.change.Change.TheVariants.{Registers, Written}
use Rattle.dm_history.specs.Edits.{changed}
use Rattle.dm_history.specs.Becomes.{HasStepTo, on, end}
use Rattle.dm_history.proofs.Counts.{counted, IsEarly, Counts, goes, ends, over, stays, steps-count, ended-stays}

pub none≢some : {A : Type 0} (x : A) → None ≡ Some x → ⊥
none≢some x e = cc

pub same-some : {A : Type 0} (x y : A) → Some x ≡ Some y → x ≡ y
same-some x y e = cc

-- a step after which the machine goes on, and what it keeps
record Goes_on (s t : State) : Type 0 where
  pub steps : t.steps ≡ counted s.steps
  pub exited : t.exited ≡ s.exited

goes-on : (s t : State) → Counts s (record { stop = None; state = t }) → Goes_on s t
goes-on s t (goes e f g) = record { steps = f; exited = g }
goes-on s t (ends code e f g) = absurd (none≢some (Exited code) e)
goes-on s t (over code e f) = absurd (none≢some (Exited code) (ap (λ (x : Answer). x.stop) f))
goes-on s t (stays stop p f) = absurd (none≢some stop (ap (λ (x : Answer). x.stop) f))

-- a step that ends the program
record Ended (s t : State) : Type 0 where
  pub steps : t.steps ≡ counted s.steps
  pub code : ℕ
  pub exited : t.exited ≡ Some code

ended : (s t : State) (code : ℕ) → s.exited ≡ None → Counts s (record { stop = Some (Exited code); state = t }) →
    Ended s t
ended s t code n (goes e f g) = absurd (none≢some (Exited code) (sym e))
ended s t code n (ends d e f g) = record { steps = f; code = d; exited = g }
ended s t code n (over d e f) = absurd (none≢some d (sym n ∙ e))
ended s t code n (stays stop p f) =
    absurd (subst IsEarly (sym (same-some (Exited code) stop (ap (λ (x : Answer). x.stop) f))) p)

pub leads-steps : (s t : State) → HasStepTo s t → t.steps ≡ counted s.steps
leads-steps s t (on h) = (goes-on s t (steps-count s _ h)).steps
leads-steps s t (end code e h) = (ended s t code e (steps-count s _ h)).steps

alive-by : (s t : State) (o : Option ℕ) → s.exited ≡ o → MakesStep s (record { stop = None; state = t }) →
    s.exited ≡ None
alive-by s t None e h = e
alive-by s t (Some code) e h = absurd (none≢some (Exited code) (ap (λ (x : Answer). x.stop) (ended-stays s code _ e h)))

pub leads-alive : (s t : State) → HasStepTo s t → s.exited ≡ None
leads-alive s t (on h) = alive-by s t s.exited refl h
leads-alive s t (end code e h) = e

pub leads-one : (s t u : State) → HasStepTo s t → HasStepTo s u → t ≡ u
leads-one s t u (on h) (on g) = ap (λ (x : Answer). x.state) (steps-one s _ _ h g)
leads-one s t u (on h) (end code e g) =
    absurd (none≢some (Exited code) (ap (λ (x : Answer). x.stop) (steps-one s _ _ h g)))
leads-one s t u (end code e h) (on g) =
    absurd (none≢some (Exited code) (ap (λ (x : Answer). x.stop) (steps-one s _ _ g h)))
leads-one s t u (end code e h) (end d f g) = ap (λ (x : Answer). x.state) (steps-one s _ _ h g)

-- a step that does not end the program
pub leads-on : (s t : State) → HasStepTo s t → t.exited ≡ None → MakesStep s (record { stop = None; state = t })
leads-on s t (on h) n = h
leads-on s t (end code e h) n = let x = ended s t code e (steps-count s _ h) in
    absurd (none≢some x.code (sym n ∙ x.exited))

pub changed-steps : (c : Change) (s : State) → (changed c s).steps ≡ s.steps
changed-steps (Registers cpu) s = refl
changed-steps (Written segment offset bytes) s = refl

pub changed-exited : (c : Change) (s : State) → (changed c s).exited ≡ s.exited
changed-exited (Registers cpu) s = refl
changed-exited (Written segment offset bytes) s = refl
