-- A history as contracts see it, and what its calls do.
use Rattle.std.specs.Prelude.{◌≡◌, ℕ, List, [], ◌∷◌, ◌++◌}
use Rattle.dm_services.specs.state.State.{State}
use Rattle.dm_history.specs.declared.change.Change.{Change}
use Rattle.dm_history.specs.declared.change.TimedChange.{TimedChange}
use Rattle.dm_history.specs.Edits.{changed, edits_to}
use Rattle.dm_history.specs.Becomes.{BecomesBy}

-- a history: the state where it begins, the edits made since in their order, and the machine's state now
pub record Timeline : Type 0 where
  pub beginning : State
  pub edits : List TimedChange
  pub machine : State

-- the history of a machine that begins in this state
abbrev pub new_timeline : State → Timeline
new_timeline s = record { beginning = s; edits = []; machine = s }

-- the history with the machine in this state, as steps leave it
abbrev pub at_state : Timeline → State → Timeline
at_state p s = record p { machine = s }

-- the history after a change made now
abbrev pub with_change : Timeline → Change → Timeline
with_change p c = record p {
  edits = p.edits ++ record { step = p.machine.steps; change = c } ∷ [];
  machine = changed c p.machine;
}

-- the history p was in this state after so many steps, with the edits made up to then
pub record Was (p : Timeline) (step : ℕ) (s : State) : Type 0 where
  pub becomes : BecomesBy p.beginning (edits_to step p.edits) s
  pub steps : s.steps ≡ step

-- q is the history p as it was after so many steps: later edits are dropped
pub record GoesBack (p : Timeline) (step : ℕ) (q : Timeline) : Type 0 where
  pub beginning : q.beginning ≡ p.beginning
  pub edits : q.edits ≡ edits_to step p.edits
  pub was : Was p step q.machine
