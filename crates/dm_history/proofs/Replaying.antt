-- Running again leads to where the machine was.
use Rattle.std.proofs.Common.{◌≡◌, ◌≢◌, ℕ, ◌+◌, ◌-◌, ◌^◌, ◌≤◌, ◌<◌, List, [], ◌∷◌, ◌++◌, length, take, drop, get_or, Result, Ok, Err, OnOk, refl, sym, ◌∙◌, ap, subst, arith}
use Rattle.std.proofs.lemmas.List.{append_assoc, append-nil, drop_more, take_more, take_all, drop_all}
use Rattle.std.proofs.lemmas.List.Elements.{All-head, All-tail}
use Rattle.dm_services.specs.declared.state.stop.Stop.TheVariants.{Steps as AllSteps, Memory as NoMemory}
use Rattle.dm_services.specs.state.State.{State, HasProgram}
use Rattle.dm_machine.specs.Run.{IsRun, whole}
use Rattle.dm_machine.proofs.OneStop.{run-one}
use Rattle.dm_history.specs.declared.change.Change.{Change}
use Rattle.dm_history.specs.declared.change.Change.TheVariants.{Registers, Written}
use Rattle.dm_history.specs.declared.change.TimedChange.{TimedChange}
use Rattle.dm_history.specs.Edits.{changed}
use Rattle.dm_history.specs.Becomes.{BecomesBy, start, edited, stepped}
use Rattle.dm_history.specs.inner.Replays.{RunsUpTo, LeadsBeyond, IsReplayed}
use Rattle.dm_history.proofs.Leading.{changed-steps, changed-exited}
use Rattle.dm_history.proofs.OneState.{edit_of, rises}
use Rattle.dm_history.proofs.Runs.{run-becomes}
use Rattle.dm_history.proofs.Walks.{alive-before, Gone, all-goes, front, midway}

pub becomes-join : (a b c : State) (es fs : List TimedChange) → BecomesBy a es b → BecomesBy b fs c →
    BecomesBy a (es ++ fs) c
becomes-join a b _ es _ x start = subst (λ xs. BecomesBy a xs b) (sym (append-nil es)) x
becomes-join a b _ es _ x (edited fs t c y) =
    subst (λ xs. BecomesBy a xs (changed c t)) (append_assoc es fs (edit_of t c ∷ [])) (edited (es
    ++ fs) t c (becomes-join a b t es fs x y))
becomes-join a b _ es _ x (stepped fs t u y h) = stepped (es ++ fs) t u (becomes-join a b t es fs x y) h

steps-no-memory : AllSteps ≢ NoMemory
steps-no-memory e = cc

-- a run to a count of steps leads where the steps had led
pub run-there : (s t w : State) (step : ℕ) → Gone s w → w.steps ≡ step → RunsUpTo s step t → t ≡ w
run-there s t w step g e r =
    let count = g.steps in
    let same : step - s.steps ≡ g.made = omega (arith, count, e) in
    let run : IsRun s g.made r.stop t = subst (λ n. IsRun s n r.stop t) same r.run in
    (run-one s t w g.made r.stop AllSteps run (whole g.alive refl g.goes) r.memory steps-no-memory).1

-- up to an edit

pub edit-comes : (s : State) (e : TimedChange) (es : List TimedChange) (step : ℕ) → LeadsBeyond s (e ∷ es) step →
    step < 2 ^ 64 - 1 → s.steps ≤ e.step
edit-comes s e es step k l =
    let f = front s k.present (e ∷ (es ++ k.others)) e (es ++ k.others) k.becomes refl in
    let within : e.step ≤ step = All-head (λ z. z.step ≤ step) e es k.within in
    let same = f.steps in
    let rise = rises s f.before [] f.becomes (omega (arith, same, within, l)) in
    omega (arith, rise, same)

pub record ToEdit (s : State) (e : TimedChange) (es : List TimedChange) (step : ℕ) (t : State) : Type 0 where
  pub steps : t.steps ≡ e.step
  pub beyond : LeadsBeyond (changed e.change t) es step

pub to-edit : (s t : State) (e : TimedChange) (es : List TimedChange) (step : ℕ) → LeadsBeyond s (e ∷ es) step →
    step < 2 ^ 64 - 1 → RunsUpTo s e.step t → ToEdit s e es step t
to-edit s t e es step k l r =
    let f = front s k.present (e ∷ (es ++ k.others)) e (es ++ k.others) k.becomes refl in
    let within : e.step ≤ step = All-head (λ z. z.step ≤ step) e es k.within in
    let same = f.steps in
    let later = k.later in
    let count = changed-steps e.change f.before in
    let alive = alive-before (changed e.change f.before) k.present (es ++ k.others) f.on (omega (
      arith,
      same,
      within,
      later,
      count,
    )) in
    let gone = all-goes s f.before [] f.becomes refl (sym (changed-exited e.change f.before)
    ∙ alive) (omega (arith, same, within, l)) in
    let there : t ≡ f.before = run-there s t f.before e.step gone same r in
    record {
      steps = ap (λ (u : State). u.steps) there ∙ same;
      beyond = record {
        within = All-tail (λ z. z.step ≤ step) e es k.within;
        others = k.others;
        after = k.after;
        present = k.present;
        becomes = subst (λ (u : State). BecomesBy (changed e.change u) (es ++ k.others) k.present) (sym there) f.on;
        later = k.later;
      };
    }

-- up to the last step

pub to-step : (s t : State) (step : ℕ) → LeadsBeyond s [] step → step < 2 ^ 64 - 1 → s.steps ≤ step →
    RunsUpTo s step t → t.steps ≡ step
to-step s t step k l b r =
    let m = midway s k.present k.others step k.becomes l b k.later k.after in
    let same = m.steps in
    let gone = all-goes s m.at [] m.becomes refl m.alive (omega (arith, same, l)) in
    ap (λ (u : State). u.steps) (run-there s t m.at step gone same r) ∙ same

pub runs-up-to : (o s t : State) (es : List TimedChange) (step : ℕ) → BecomesBy o es s → RunsUpTo s step t →
    BecomesBy o es t
runs-up-to o s t es step b r = run-becomes o s t es (step - s.steps) r.stop b r.run

-- ---- one edit after another

pub changed-loaded : (c : Change) (s : State) → HasProgram s → HasProgram (changed c s)
changed-loaded (Registers cpu) s h = h
changed-loaded (Written segment offset bytes) s h = h

at-item : (es : List TimedChange) (i : ℕ) (e : TimedChange) → i < length es → e ≡ get_or es i e → drop i es ≡ e
    ∷ drop (i + 1) es
at-item es i e l is = drop_more es i e l ∙ ap (λ z. z ∷ drop (i + 1) es) (sym is)

pub known-item : (s : State) (es : List TimedChange) (i step : ℕ) (e : TimedChange) → i < length es →
    e ≡ get_or es i e → LeadsBeyond s (drop i es) step → LeadsBeyond s (e ∷ drop (i + 1) es) step
known-item s es i step e l is k = subst (λ xs. LeadsBeyond s xs step) (at-item es i e l is) k

-- the state after the next edit
pub record Next (o : State) (es : List TimedChange) (i step : ℕ) (t : State) : Type 0 where
  pub loaded : HasProgram t
  pub before : t.steps ≤ step
  pub becomes : BecomesBy o (take (i + 1) es) t
  pub known : LeadsBeyond t (drop (i + 1) es) step

next-edit : (o s t : State) (es : List TimedChange) (i step : ℕ) (e : TimedChange) → i < length es → e ≡ get_or es i e →
    step < 2 ^ 64 - 1 → BecomesBy o (take i es) s → LeadsBeyond s (drop i es) step → RunsUpTo s e.step t →
    HasProgram t →
    Next o es i step (changed e.change t)
next-edit o s t es i step e l is m b k r h =
    let known = known-item s es i step e l is k in
    let x = to-edit s t e (drop (i + 1) es) step known m r in
    let now = x.steps in
    let count = changed-steps e.change t in
    let within : e.step ≤ step = All-head (λ z. z.step ≤ step) e (drop (i + 1) es) known.within in
    let same : edit_of t e.change ≡ e = ap (λ n. record { step = n; change = e.change }) now in
    let whole : take i es ++ edit_of t e.change ∷ [] ≡ take (i + 1) es = ap (λ z. take i es ++ z ∷ []) (same ∙ is)
    ∙ sym (take_more es i e l) in
    record {
      loaded = changed-loaded e.change t h;
      before = omega (arith, now, count, within);
      becomes = subst (λ xs. BecomesBy o xs (changed e.change t)) whole (edited (take i es) t e.change
          (runs-up-to o s t (take i es) e.step b r));
      known = x.beyond;
    }

pub next-state : (o s t u : State) (es : List TimedChange) (i step : ℕ) (e : TimedChange) → u ≡ changed e.change t →
    i < length es → e ≡ get_or es i e → step < 2 ^ 64 - 1 → BecomesBy o (take i es) s → LeadsBeyond s (drop i es) step →
    RunsUpTo s e.step t → HasProgram t → Next o es i step u
next-state o s t u es i step e q l is m b k r h =
    subst (Next o es i step) (sym q) (next-edit o s t es i step e l is m b k r h)

pub replayed : (o s t : State) (es : List TimedChange) (i step : ℕ) → length es ≤ i → step < 2 ^ 64 - 1 →
    s.steps ≤ step → BecomesBy o (take i es) s → LeadsBeyond s (drop i es) step → RunsUpTo s step t →
    IsReplayed o es step t
replayed o s t es i step l m a b k r = record {
  becomes = runs-up-to o s t es step (subst (λ xs. BecomesBy o xs s) (take_all i es l) b) r;
  steps = to-step s t step (subst (λ xs. LeadsBeyond s xs step) (drop_all i es l) k) m a r;
}

pub on-ok : {A E P Q : Type 0} (r : Result A E) → (P → Q) → OnOk r P → OnOk r Q
on-ok (Ok a) f h = f h
on-ok (Err e) f h = h
