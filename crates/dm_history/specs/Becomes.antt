-- How a machine comes from an earlier state: by steps, and by edits between them.
use Rattle.std.specs.Prelude.{◌≡◌, ℕ, List, [], ◌∷◌, ◌++◌, Some, None}
use Rattle.dm_services.specs.declared.state.stop.Stop.TheVariants.{Exited}
use Rattle.dm_services.specs.state.State.{State}
use Rattle.dm_machine.specs.Step.{MakesStep}
use Rattle.dm_history.specs.declared.change.Change.{Change}
use Rattle.dm_history.specs.declared.change.TimedChange.{TimedChange}
use Rattle.dm_history.specs.Edits.{changed}

-- a step from s leads to t: the machine goes on, or the program ends with it
pub data HasStepTo (s t : State) : Type 0 where
  on : MakesStep s (record { stop = None; state = t }) → HasStepTo s t
  end : (code : ℕ) → s.exited ≡ None → MakesStep s (record { stop = Some (Exited code); state = t }) → HasStepTo s t

-- s becomes this state by steps and by these edits, each made when so many steps had been made
pub data BecomesBy (s : State) : List TimedChange → State → Type 0 where
  start : BecomesBy s [] s
  edited : (es : List TimedChange) (t : State) (c : Change) → BecomesBy s es t →
      BecomesBy s (es ++ record { step = t.steps; change = c } ∷ []) (changed c t)
  stepped : (es : List TimedChange) (t u : State) → BecomesBy s es t → HasStepTo t u → BecomesBy s es u
