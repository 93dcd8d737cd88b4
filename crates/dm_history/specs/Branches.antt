-- A branch of a history: another history that begins at an earlier state, and goes through the same states.
use Rattle.std.specs.Prelude.{◌≡◌, ℕ, ◌+◌, ◌≤◌, ◌<◌, [], None}
use Rattle.dm_services.specs.state.State.{State}
use Rattle.dm_history.specs.Becomes.{BecomesBy}
use Rattle.dm_history.specs.Timelines.{Timeline, new_timeline, Was}

-- steps alone lead from s to a state one step before this count of steps, in which the program has not ended
pub record Reaches (s : State) (end : ℕ) : Type 0 where
  pub last : State
  pub becomes : BecomesBy s [] last
  pub steps : last.steps + 1 ≡ end
  pub alive : last.exited ≡ None

-- b begins at a state of the history p, at the step `wish` or later. From there on to the step before `end`, the states
-- to which steps alone lead are those of p
pub record IsBranch (p : Timeline) (wish end : ℕ) (b : Timeline) : Type 0 where
  pub begins : b ≡ new_timeline b.machine
  pub since : wish ≤ b.machine.steps
  pub before : b.machine.steps < end
  pub reaches : Reaches b.machine end
  pub was : (s : State) → BecomesBy b.machine [] s → s.steps < end → Was p s.steps s
  pub becomes : (k : ℕ) (s : State) → b.machine.steps ≤ k → k < end → Was p k s → BecomesBy b.machine [] s
