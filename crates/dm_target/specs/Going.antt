-- Going on: steps up to a breakpoint, the end of a range of addresses, a hit of a watchpoint, a stop, or a number of
-- steps.
-- Source: GDB manual, "GDB Remote Serial Protocol", "Packets" (`s`, `c`, `Z0` to `Z4`) and "vCont" (ranges).
use Rattle.std.specs.Prelude.{◌≡◌, ◌≢◌, ℕ, ◌+◌, ◌<◌, Bool, true, false, ◌||◌, ◌==◌, nat_lt, nat_le, List, [], Option, Some, None}
use Rattle.std.specs.List.{list_any}
use Rattle.dm_space.specs.declared.entry_points.EntryPoint.{EntryPoint}
use Rattle.dm_space.specs.EntryPoints.{entry_point_at}
use Rattle.dm_requests.specs.declared.request.Point.{Point}
use Rattle.dm_services.specs.declared.state.stop.Stop.{Stop}
use Rattle.dm_services.specs.declared.state.stop.Stop.TheVariants.{Steps as AllSteps, Memory as NoMemory}
use Rattle.dm_services.specs.state.State.{State}
use Rattle.dm_machine.specs.Run.{IsRun}
use Rattle.dm_target.specs.declared.going.Pause.{Pause}
use Rattle.dm_target.specs.declared.going.Pause.TheVariants.{Arrived, Hit, Stopped}
use Rattle.dm_target.specs.declared.going.StepRange.{StepRange}
use Rattle.dm_target.specs.Memory.{linear_of}
use Rattle.dm_target.specs.Watching.{Hits}

-- the linear address of CS:IP
abbrev pub code_address : State → ℕ
code_address s = linear_of s.memory s.cpu.cs s.cpu.ip

-- whether an address is one of these
abbrev pub is_among : List ℕ → ℕ → Bool
is_among points address = list_any (λ p. p == address) points

-- whether an address is outside the range; if there is none, it is not
abbrev pub is_outside : Option StepRange → ℕ → Bool
is_outside None address = false
is_outside (Some span) address = nat_lt address span.start || nat_le span.end address

-- whether the machine stands at a breakpoint, or outside the range
abbrev pub has_arrived : List ℕ → Option StepRange → State → Bool
has_arrived points span s = is_among points (code_address s) || is_outside span (code_address s)

-- n steps, one after the other, lead from s to this state; none of them led to a breakpoint or out of the range, or hit
-- a watchpoint
pub data RunsPast (points : List ℕ) (watches : List Point) (span : Option StepRange) (s : State) : ℕ → State →
    Type 0 where
  here : RunsPast points watches span s 0 s
  further : (n : ℕ) (t u : State) → RunsPast points watches span s n t → IsRun t 1 AllSteps u → Hits watches t u None →
      has_arrived points span u ≡ false
      → RunsPast points watches span s (n + 1) u

-- At most `most` steps from s, but none after one that led to a breakpoint or out of the range, or hit a watchpoint,
-- end for this reason in t. Such a step was made (`arrived`, `hit`), all were made (`whole`), or a stop came earlier
-- (`cut`); if there is neither breakpoint nor watchpoint nor range, the steps are a run (`plain`). Before a service or
-- driver the watched bytes are kept; for want of memory for them the steps end there (`short`)
pub data Continues (points : List ℕ) (watches : List Point) (span : Option StepRange) (s : State) (most : ℕ)
    (pause : Pause) (t : State) : Type 0 where
  plain : (why : Stop) → points ≡ [] → watches ≡ [] → span ≡ None → pause ≡ Stopped why → IsRun s most why t →
      Continues points watches span s most pause t
  arrived : (made : ℕ) (before : State) → made < most → pause ≡ Arrived → RunsPast points watches span s made before →
      IsRun before 1 AllSteps t → Hits watches before t None
      → has_arrived points span t ≡ true → Continues points watches span s most pause t
  hit : (made : ℕ) (before : State) (point : Point) → made < most → pause ≡ Hit point →
      RunsPast points watches span s made before → IsRun before 1 AllSteps t
      → Hits watches before t (Some point) → Continues points watches span s most pause t
  whole : pause ≡ Stopped AllSteps → RunsPast points watches span s most t → Continues points watches span s most pause t
  cut : (made : ℕ) (before : State) (why : Stop) → made < most → pause ≡ Stopped why → why ≢ AllSteps →
      RunsPast points watches span s made before → IsRun before 1 why t
      → Continues points watches span s most pause t
  short : (made : ℕ) (what : EntryPoint) → made < most → pause ≡ Stopped NoMemory → watches ≢ [] →
      entry_point_at t.cpu.cs t.cpu.ip ≡ Some what → RunsPast points watches span s made t
      → Continues points watches span s most pause t
