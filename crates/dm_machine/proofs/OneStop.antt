-- A run has one stop
use Rattle.std.proofs.Common.{◌≡◌, ◌≢◌, ℕ, ◌<◌, inl, inr, Option, Some, None, refl, sym, ◌∙◌, ap, subst, arith}
use Rattle.std.proofs.lemmas.Bool.{cases_lt}
use Rattle.dm_services.specs.declared.state.stop.Stop.{Stop}
use Rattle.dm_services.specs.declared.state.stop.Stop.TheVariants.{Exited, Memory as NoMemory}
use Rattle.dm_services.specs.state.State.{State, Answer}
use Rattle.dm_machine.specs.Step.{MakesStep}
use Rattle.dm_machine.specs.Run.{Answers, Goes, here, further, StopsWithin, over, whole, cut}
use Rattle.dm_machine.specs.Laws.{RunHasOneStop}
use Rattle.dm_machine.proofs.OneRun.{steps-one, goes-one}

-- a step within a run
pub record Within (s : State) (k : ℕ) : Type 0 where
  pub before : State
  pub next : State
  pub goes : Goes s k before
  pub steps : MakesStep before (record { stop = None; state = next })

pub within : (s t : State) (n k : ℕ) → Goes s n t → k < n → Within s k
within s t n k here less = absurd (omega (arith, less))
within s t n k (further m u v goes h) less = elim (cases_lt k m) [
  | inl under ↦ within s u m k goes under
  | inr least ↦
      (let same : m ≡ k = omega (arith, less, least) in
      record { before = u; next = v; goes = subst (λ j. Goes s j u) same goes; steps = h })
]

pub answers-stop : (s : State) (stop : Stop) (t : State) → stop ≢ NoMemory → Answers s (Some stop) t →
    MakesStep s (record { stop = Some stop; state = t })
answers-stop s NoMemory t p h = absurd (p refl)
answers-stop s stop t p h = h

pub some-none : {A : Type 0} (o : Option A) (a : A) → o ≡ Some a → o ≡ None → ⊥
some-none o a e f = cc

pub stop-same : (a b : Stop) (o : Option Stop) → Some a ≡ o → o ≡ Some b → a ≡ b
stop-same a b o e f = cc

-- no run goes on beyond the step at which another one stops
pub not_beyond : (s t u : State) (n : ℕ) (stop : Stop) → stop ≢ NoMemory → Goes s n t → StopsWithin s n stop u → ⊥
not_beyond s t u n stop p goes w =
    let v = within s t n w.made goes w.fewer in
    let same : v.before ≡ w.before = goes-one s v.before w.before w.made v.goes w.goes in
    let stops : MakesStep w.before (record { stop = Some stop; state = u }) =
    answers-stop w.before stop u p w.answers in
    let on : MakesStep w.before (record { stop = None; state = v.next }) =
    subst (λ z. MakesStep z (record { stop = None; state = v.next })) same v.steps in
    let one = steps-one w.before _ _ stops on in
    some-none (Some stop) stop refl (ap (λ (x : Answer). x.stop) one)

cut-one : (s t u : State) (n : ℕ) (a b : Stop) → a ≢ NoMemory → b ≢ NoMemory → (w : StopsWithin s n a t) →
    (v : StopsWithin s n b u) → w.made ≡ v.made → (a ≡ b) × (t ≡ u)
cut-one s t u n a b p q w v e =
    let same : w.before ≡ v.before = goes-one s w.before v.before v.made (subst (λ k. Goes s k w.before) e w.goes)
    v.goes in
    let x : MakesStep v.before (record { stop = Some a; state = t })
    = subst (λ z. MakesStep z (record { stop = Some a; state = t })) same (answers-stop w.before a t p w.answers) in
    let one = steps-one v.before _ _ x (answers-stop v.before b u q v.answers) in
    (stop-same a b _ (ap (λ (z : Answer). z.stop) one) refl, ap (λ (z : Answer). z.state) one)

both-cut : (s t u : State) (n : ℕ) (a b : Stop) → a ≢ NoMemory → b ≢ NoMemory → StopsWithin s n a t →
    StopsWithin s n b u → (a ≡ b) × (t ≡ u)
both-cut s t u n a b p q w v = elim (cases_lt w.made v.made) [
  | inl less ↦ absurd (not_beyond s v.before t v.made a p v.goes (record {
    made = w.made;
    before = w.before;
    fewer = less;
    goes = w.goes;
    answers = w.answers;
  }))
  | inr least ↦
      elim (cases_lt v.made w.made) [
        | inl less ↦ absurd (not_beyond s w.before u w.made b q w.goes (record {
          made = v.made;
          before = v.before;
          fewer = less;
          goes = v.goes;
          answers = v.answers;
        }))
        | inr most ↦ cut-one s t u n a b p q w v (omega (arith, least, most))
      ]
]

pub code-same : (o : Option ℕ) (c d : ℕ) → o ≡ Some c → o ≡ Some d → c ≡ d
code-same o c d e f = cc

pub run-one : RunHasOneStop
run-one s t u n a b (over c e f g) (over d h i j) p q = (f ∙ ap Exited (code-same s.exited c d e h) ∙ sym i, g ∙ sym j)
run-one s t u n a b (over c e f g) (whole h i goes) p q = absurd (some-none s.exited c e h)
run-one s t u n a b (over c e f g) (cut h w) p q = absurd (some-none s.exited c e h)
run-one s t u n a b (whole e f goes) (over c h i j) p q = absurd (some-none s.exited c h e)
run-one s t u n a b (whole e f goes) (whole h i on) p q = (f ∙ sym i, goes-one s t u n goes on)
run-one s t u n a b (whole e f goes) (cut h w) p q = absurd (not_beyond s t u n b q goes w)
run-one s t u n a b (cut e w) (over c h i j) p q = absurd (some-none s.exited c h e)
run-one s t u n a b (cut e w) (whole h i goes) p q = absurd (not_beyond s u t n a p goes w)
run-one s t u n a b (cut e w) (cut h v) p q = both-cut s t u n a b p q w v
