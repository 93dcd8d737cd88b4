-- The copies that a history keeps on its way, and its invariant. Private contracts and proofs alone name these.
use Rattle.std.specs.Prelude.{◌≡◌, ℕ, ◌+◌, ◌≤◌, nat_le, ◌&&◌, Bool, List, [], ◌∷◌, ◌++◌, length, take, drop, All}
use Rattle.dm_services.specs.state.State.{HasProgram}
use Rattle.dm_history.specs.declared.copies.Kept.{Kept}
use Rattle.dm_history.specs.Becomes.{BecomesBy}
use Rattle.dm_history.specs.Timelines.{Timeline}

-- whether the copy was made at a step or before it, with at most `count` edits
abbrev pub is_no_later : ℕ → ℕ → Kept → Bool
is_no_later step count c = nat_le c.machine.steps step && nat_le c.edits count

-- the history has been in the copy's state, when the first edits had been made and the others were to come
pub record IsOnTheWay (p : Timeline) (c : Kept) : Type 0 where
  pub made : c.edits ≤ length p.edits
  pub becomes : BecomesBy p.beginning (take c.edits p.edits) c.machine
  pub next : All (λ e. c.machine.steps ≤ e.step) (drop c.edits p.edits)
  pub before : c.machine.steps ≤ p.machine.steps
  pub loaded : HasProgram c.machine

-- the copies new are the copies old, or one of them is gone
pub data LosesOne (old new : List Kept) : Type 0 where
  all : new ≡ old → LosesOne old new
  one : (i : ℕ) → new ≡ take i old ++ drop (i + 1) old → LosesOne old new

-- the copies new are the copies old, or another one stands behind them
pub data MayGain (old : List Kept) (copy : Kept) (new : List Kept) : Type 0 where
  none : new ≡ old → MayGain old copy new
  more : new ≡ old ++ copy ∷ [] → MayGain old copy new

-- the machine's state is the one that the beginning becomes, and each copy is on the way
pub record IsHistory (p : Timeline) (copies : List Kept) : Type 0 where
  pub becomes : BecomesBy p.beginning p.edits p.machine
  pub beginning : HasProgram p.beginning
  pub loaded : HasProgram p.machine
  pub ways : All (IsOnTheWay p) copies
