-- Going back to the last hit: a state at a breakpoint, or one from which a step hits a watchpoint.
-- Source: GDB manual, "Reverse Execution" (`reverse-continue`) and "Packets" (`bc`). That going back stops before the
-- step that hits a watchpoint is this server's own choice.
use Rattle.std.specs.Prelude.{◌≡◌, ℕ, ◌+◌, ◌<◌, ◌≤◌, true, false, List, Some, None}
use Rattle.dm_requests.specs.declared.request.Point.{Point}
use Rattle.dm_services.specs.declared.state.stop.Stop.TheVariants.{Steps as AllSteps}
use Rattle.dm_services.specs.state.State.{State}
use Rattle.dm_machine.specs.Run.{IsRun}
use Rattle.dm_history.specs.Timelines.{Timeline, Was, GoesBack}
use Rattle.dm_target.specs.declared.undoing.Undone.{Undone}
use Rattle.dm_target.specs.declared.undoing.Undone.TheVariants.{Begun, Back, Hit}
use Rattle.dm_target.specs.Going.{is_among, code_address}
use Rattle.dm_target.specs.Watching.{Hits}

-- the step from s hits no watchpoint. One that ends the program hits none, as forwards
abbrev pub Misses : List Point → State → Type 0
Misses watches s = (t : State) → IsRun s 1 AllSteps t → Hits watches s t None

-- s is a hit, which is told as this: the step from it hits a watchpoint; or s stands at a breakpoint, and the step hits
-- none
pub data Meets (points : List ℕ) (watches : List Point) (s : State) : Undone → Type 0 where
  hits : (point : Point) (t : State) → IsRun s 1 AllSteps t → Hits watches s t (Some point) →
      Meets points watches s (Hit point)
  stands : is_among points (code_address s) ≡ true → Misses watches s → Meets points watches s Back

-- s is no hit
pub record IsNoHit (points : List ℕ) (watches : List Point) (s : State) : Type 0 where
  pub apart : is_among points (code_address s) ≡ false
  pub misses : Misses watches s

-- from one step of the history p up to another, that one left out, no state is a hit
abbrev pub AreClear : List ℕ → List Point → Timeline → ℕ → ℕ → Type 0
AreClear points watches p from end = (k : ℕ) (s : State) → from ≤ k → k < end → Was p k s → IsNoHit points watches s

-- the history p goes back to the last hit before its present state, and becomes q; and what is told of it. Where there
-- is none, it goes back to its beginning (`to_start`); where it stands there already, it stays (`begun`)
pub data Returns (points : List ℕ) (watches : List Point) (p : Timeline) : Undone → Timeline → Type 0 where
  begun : p.machine.steps ≤ p.beginning.steps → Returns points watches p Begun p
  to_start : (q : Timeline) → p.beginning.steps < p.machine.steps → GoesBack p p.beginning.steps q →
      AreClear points watches p p.beginning.steps p.machine.steps
      → Returns points watches p Begun q
  met : (k : ℕ) (what : Undone) (q : Timeline) → p.beginning.steps ≤ k → k < p.machine.steps → GoesBack p k q →
      Meets points watches q.machine what
      → AreClear points watches p (k + 1) p.machine.steps → Returns points watches p what q
