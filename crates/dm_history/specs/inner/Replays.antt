-- What running again does. Private contracts and proofs alone name these.
use Rattle.std.specs.Prelude.{◌≡◌, ◌≢◌, ℕ, ◌-◌, ◌<◌, ◌≤◌, List, [], ◌∷◌, ◌++◌, All, length, take, drop}
use Rattle.dm_services.specs.declared.state.stop.Stop.{Stop}
use Rattle.dm_services.specs.declared.state.stop.Stop.TheVariants.{Memory as NoMemory}
use Rattle.dm_services.specs.state.State.{State, HasProgram}
use Rattle.dm_machine.specs.Run.{IsRun}
use Rattle.dm_history.specs.declared.change.TimedChange.{TimedChange}
use Rattle.dm_history.specs.Edits.{edits_to}
use Rattle.dm_history.specs.Becomes.{BecomesBy}
use Rattle.dm_history.specs.Timelines.{Timeline}

-- a run from s up to a count of steps, in which no allocation fails, leaves t
pub record RunsUpTo (s : State) (step : ℕ) (t : State) : Type 0 where
  pub stop : Stop
  pub run : IsRun s (step - s.steps) stop t
  pub memory : stop ≢ NoMemory

-- the first of these edits, if there is one, was made after a step
abbrev pub AreAfter : ℕ → List TimedChange → Type 0
AreAfter step [] = Unit {0}
AreAfter step (e ∷ es) = step < e.step

-- from s, by these edits made up to a step, and then others, a state after more steps was reached
pub record LeadsBeyond (s : State) (es : List TimedChange) (step : ℕ) : Type 0 where
  pub within : All (λ e. e.step ≤ step) es
  pub others : List TimedChange
  pub after : AreAfter step others
  pub present : State
  pub becomes : BecomesBy s (es ++ others) present
  pub later : step < present.steps

-- from s, by these edits, t is reached after so many steps
pub record IsReplayed (s : State) (es : List TimedChange) (step : ℕ) (t : State) : Type 0 where
  pub becomes : BecomesBy s es t
  pub steps : t.steps ≡ step

-- s is a state of the history p, with its first `made` edits done and the others to come, no later than a step
pub record IsBase (p : Timeline) (step : ℕ) (s : State) (made : ℕ) : Type 0 where
  pub some : made ≤ length (edits_to step p.edits)
  pub before : s.steps ≤ step
  pub leads : BecomesBy p.beginning (take made p.edits) s
  pub on : BecomesBy s (drop made p.edits) p.machine
  pub loaded : HasProgram s
