-- Looking for the last hit. Private contracts and proofs alone name these.
use Rattle.std.specs.Prelude.{◌≡◌, ℕ, ◌+◌, ◌<◌, ◌≤◌, Bool, true, false, List, [], Option, Some, None}
use Rattle.dm_requests.specs.declared.request.Point.{Point}
use Rattle.dm_services.specs.declared.state.stop.Stop.TheVariants.{Steps as AllSteps}
use Rattle.dm_services.specs.state.State.{State}
use Rattle.dm_machine.specs.Run.{IsRun}
use Rattle.dm_history.specs.Becomes.{BecomesBy}
use Rattle.dm_history.specs.Timelines.{Timeline, Was}
use Rattle.dm_target.specs.declared.returning.Found.{Found}
use Rattle.dm_target.specs.Going.{is_among, code_address}
use Rattle.dm_target.specs.Watching.{Hits}
use Rattle.dm_target.specs.Returning.{IsNoHit, AreClear}

-- s is a hit
pub data IsMet (points : List ℕ) (watches : List Point) (s : State) : Type 0 where
  stands : is_among points (code_address s) ≡ true → IsMet points watches s
  hits : (point : Point) (t : State) → IsRun s 1 AllSteps t → Hits watches s t (Some point) → IsMet points watches s

-- of the states to which steps lead from o, none from one count of steps up to another is a hit
abbrev pub ClearTo : List ℕ → List Point → State → ℕ → ℕ → Type 0
ClearTo points watches o from end = (s : State) → BecomesBy o [] s → from ≤ s.steps → s.steps < end →
    IsNoHit points watches s

-- steps lead from o to a hit with this count of steps
pub record MetAt (points : List ℕ) (watches : List Point) (o : State) (k : ℕ) : Type 0 where
  pub at : State
  pub becomes : BecomesBy o [] at
  pub steps : at.steps ≡ k
  pub met : IsMet points watches at

-- the last hit, by its count of steps, among the states before this count to which steps lead from o; or there is none
pub data Seen (points : List ℕ) (watches : List Point) (o : State) : Option ℕ → ℕ → Type 0 where
  none : (end : ℕ) → ClearTo points watches o o.steps end → Seen points watches o None end
  last : (k end : ℕ) → k < end → o.steps ≤ k → MetAt points watches o k → ClearTo points watches o (k + 1) end →
      Seen points watches o (Some k) end

-- m is the last hit if it stands at a breakpoint; otherwise the last hit was before it
pub data Stands (points : List ℕ) (watches : List Point) (o m : State) : Option ℕ → Type 0 where
  here : is_among points (code_address m) ≡ true → Stands points watches o m (Some m.steps)
  before : (last : Option ℕ) → is_among points (code_address m) ≡ false → Seen points watches o last m.steps →
      Stands points watches o m last

-- the last hit with m among those that were looked at, if m is before `end`; before it, the last one was this
pub data IsStand (points : List ℕ) (m : State) (end : ℕ) (last : Option ℕ) : Option ℕ → Bool → Type 0 where
  over : end ≤ m.steps → IsStand points m end last last true
  here : m.steps < end → is_among points (code_address m) ≡ true → IsStand points m end last (Some m.steps) false
  before : m.steps < end → is_among points (code_address m) ≡ false → IsStand points m end last last false

-- what looking further has shown, which led to t: the last hit before `end`, if all was looked at; otherwise the last
-- one before or at t, and there is one
abbrev pub IsLookedAt : List ℕ → List Point → State → ℕ → State → Option ℕ → Bool → Type 0
IsLookedAt points watches o end t found true = Seen points watches o found end
IsLookedAt points watches o end t None false = ⊥
IsLookedAt points watches o end t (Some k) false = (t.steps < end) × BecomesBy o [] t ×
    Stands points watches o t (Some k)

-- there is something, if some parts were looked at
abbrev pub IsSomeAfter : ℕ → Option ℕ → Type 0
IsSomeAfter parts None = parts ≡ 0
IsSomeAfter parts (Some k) = Unit {0}

-- what was found among the states from o up to this count: nothing; the last hit, or one of them
abbrev pub IsSurvey : List ℕ → List Point → State → ℕ → Option Found → Type 0
IsSurvey points watches o end None = ClearTo points watches o o.steps end
IsSurvey points watches o end (Some found) = (o.steps ≤ found.step) × (found.step < end) ×
    MetAt points watches o found.step × (found.is_last ≡ true → ClearTo points watches o (found.step + 1) end)

-- the history p was at a hit at this step
pub record WasMet (points : List ℕ) (watches : List Point) (p : Timeline) (k : ℕ) : Type 0 where
  pub at : State
  pub was : Was p k at
  pub met : IsMet points watches at

-- what the states of the history p from one count up to another show: no hit; the last hit, or one of them
abbrev pub Shows : List ℕ → List Point → Timeline → ℕ → ℕ → Option Found → Type 0
Shows points watches p from end None = AreClear points watches p from end
Shows points watches p from end (Some found) = (from ≤ found.step) × (found.step < end) ×
    WasMet points watches p found.step × (found.is_last ≡ true → AreClear points watches p (found.step + 1) end)

-- a part of the history p that begins at the step `wish` or later was looked at
pub record IsPart (points : List ℕ) (watches : List Point) (p : Timeline) (wish end from : ℕ)
    (found : Option Found) : Type 0 where
  pub since : wish ≤ from
  pub before : from < end
  pub shows : Shows points watches p from end found

-- the last hit of the history p was at this step, or none was before its present state
abbrev pub IsLast : List ℕ → List Point → Timeline → Option ℕ → Type 0
IsLast points watches p None = AreClear points watches p p.beginning.steps p.machine.steps
IsLast points watches p (Some k) = (p.beginning.steps ≤ k) × (k < p.machine.steps) × WasMet points watches p k ×
    AreClear points watches p (k + 1) p.machine.steps

-- the last hit that is known before `low`: none if `low` is the beginning's step; otherwise it was at the step before
abbrev pub IsKnown : List ℕ → List Point → Timeline → ℕ → Option ℕ → Type 0
IsKnown points watches p low None = low ≡ p.beginning.steps
IsKnown points watches p low (Some k) = (low ≡ k + 1) × (p.beginning.steps ≤ k) × (k < p.machine.steps) ×
    WasMet points watches p k

-- a hit, if there is one, and whether it is the last
abbrev pub found_with : Option ℕ → Bool → Option Found
found_with None is_last = None
found_with (Some step) is_last = Some (record { step = step; is_last = is_last })
