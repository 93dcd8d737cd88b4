-- The law of histories: going back leads to one state.
use Rattle.std.specs.Prelude.{◌≡◌, ◌-◌, ◌^◌, ◌<◌, List}
use Rattle.dm_services.specs.state.State.{State}
use Rattle.dm_history.specs.declared.change.TimedChange.{TimedChange}
use Rattle.dm_history.specs.Becomes.{BecomesBy}

-- s becomes at most one state by these edits and so many steps. It is about counts below 2^64 - 1: there the count
-- stays
abbrev pub ThereIsOneState : Type 0
ThereIsOneState = (s t u : State) (es : List TimedChange) → BecomesBy s es t → BecomesBy s es u → t.steps ≡ u.steps →
    u.steps < 2 ^ 64 - 1 → t ≡ u
