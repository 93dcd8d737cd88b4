-- Steps within one code segment are steps.
use Rattle.std.proofs.Common.{ℕ, ◌-◌, ◌^◌, ◌≤◌, List}
use Rattle.std.proofs.lemmas.List.Elements.{All-weaker}
use Rattle.dm_services.specs.state.State.{State, HasProgram}
use Rattle.dm_machine.specs.declared.until.Breakpoint.{Breakpoint}
use Rattle.dm_machine.specs.Run.{Goes}
use Rattle.dm_machine.specs.Run as run
use Rattle.dm_machine.specs.Near.{GoesWithin, here, further, GoesNear, start, ended}
use Rattle.dm_history.specs.declared.copies.Kept.{Kept}
use Rattle.dm_history.specs.Timelines.{Timeline, at_state}
use Rattle.dm_history.specs.inner.Copies.{IsOnTheWay, IsHistory}
use Rattle.dm_history.proofs.Runs.{goes-becomes, goes-rise}
use Rattle.dm_history.proofs.Keeping.{way-on}

within-goes : (ps : List Breakpoint) (s t : State) (n : ℕ) → GoesWithin ps s n t → Goes s n t
within-goes ps s _ _ here = run.here
within-goes ps s _ _ (further n t u g h e l f) = run.further n t u (within-goes ps s t n g) h

near-goes : (ps : List Breakpoint) (s t : State) (n : ℕ) → GoesNear ps s n t → Goes s n t
near-goes ps s _ _ start = run.here
near-goes ps s _ _ (ended n t u g h) = run.further n t u (within-goes ps s t n g) h

pub history-near : (p : Timeline) (cs : List Kept) (ps : List Breakpoint) (t : State) (n : ℕ) →
    p.machine.steps ≤ 2 ^ 64 - 1 → IsHistory p cs → GoesNear ps p.machine n t → HasProgram t →
    IsHistory (at_state p t) cs
history-near p cs ps t n l h g loaded =
    let goes = near-goes ps p.machine t n g in
    record {
      becomes = goes-becomes p.beginning p.machine t p.edits n h.becomes goes;
      beginning = h.beginning;
      loaded = loaded;
      ways = All-weaker (IsOnTheWay p) (IsOnTheWay (at_state p t)) (λ c w. way-on p t c
          (goes-rise p.machine t n l goes).0 w) cs h.ways;
    }
