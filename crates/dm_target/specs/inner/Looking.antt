-- One step under watchpoints, and steps that hit none. Private contracts and proofs alone name these.
use Rattle.std.specs.Prelude.{◌≡◌, ◌≢◌, ℕ, ◌+◌, ◌*◌, ◌-◌, ◌/◌, ◌≤◌, ◌&&◌, ◌++◌, nat_le, true, false, if◌then◌else◌, List, [], ◌∷◌, Option, Some, None}
use Rattle.std.specs.List.{flat_map}
use Rattle.dm_space.specs.Memory.{Memory}
use Rattle.dm_space.specs.declared.entry_points.EntryPoint.{EntryPoint}
use Rattle.dm_space.specs.EntryPoints.{entry_point_at}
use Rattle.dm_touches.specs.quiet.Marks.{level_at}
use Rattle.dm_requests.specs.declared.request.WatchedAccess.{WatchedAccess}
use Rattle.dm_requests.specs.declared.request.WatchedAccess.TheVariants.{Execute, Write, Read, Either}
use Rattle.dm_requests.specs.declared.request.Point.{Point}
use Rattle.dm_services.specs.declared.state.stop.Stop.{Stop}
use Rattle.dm_services.specs.declared.state.stop.Stop.TheVariants.{Steps as AllSteps, Memory as NoMemory}
use Rattle.dm_services.specs.state.State.{State}
use Rattle.dm_machine.specs.declared.until.Breakpoint.{Breakpoint}
use Rattle.dm_machine.specs.Run.{IsRun}
use Rattle.dm_target.specs.declared.going.Pause.{Pause}
use Rattle.dm_target.specs.declared.going.Pause.TheVariants.{Arrived, Hit, Stopped}
use Rattle.dm_target.specs.declared.going.StepRange.{StepRange}
use Rattle.dm_target.specs.Going.{RunsPast, has_arrived}
use Rattle.dm_target.specs.Watching.{Hits, is_in_range, watched_bytes}

-- one step from s was looked at, and leaves t: it hit no watchpoint (None), it hit one, or the machine stopped; or
-- there was no memory to keep the watched bytes before a service or driver
pub data Looks (watches : List Point) (s : State) : Option Pause → State → Type 0 where
  missed : (t : State) → IsRun s 1 AllSteps t → Hits watches s t None → Looks watches s None t
  hits : (point : Point) (t : State) → IsRun s 1 AllSteps t → Hits watches s t (Some point) →
      Looks watches s (Some (Hit point)) t
  stops : (why : Stop) (t : State) → why ≢ AllSteps → IsRun s 1 why t → Looks watches s (Some (Stopped why)) t
  wants : (what : EntryPoint) → watches ≢ [] → entry_point_at s.cpu.cs s.cpu.ip ≡ Some what →
      Looks watches s (Some (Stopped NoMemory)) s

-- why going on pauses after the call of `run` for one step, which returned a stop, and a hit if the step was made
abbrev pub pause_at : Stop → Option Point → Option Pause
pause_at AllSteps None = None
pause_at AllSteps (Some point) = Some (Hit point)
pause_at why hit = Some (Stopped why)

-- a step under watchpoints, and whether it led to a breakpoint or out of the range if it hit no watchpoint
pub data Ends (points : List ℕ) (watches : List Point) (span : Option StepRange) (s : State) : Option Pause → State →
    Type 0 where
  goes_on : (t : State) → IsRun s 1 AllSteps t → Hits watches s t None → has_arrived points span t ≡ false →
      Ends points watches span s None t
  arrives : (t : State) → IsRun s 1 AllSteps t → Hits watches s t None → has_arrived points span t ≡ true →
      Ends points watches span s (Some Arrived) t
  ends : (pause : Pause) (t : State) → Looks watches s (Some pause) t → Ends points watches span s (Some pause) t

-- n steps lead from s to this state and hit no watchpoint; the last may have led to a breakpoint, none before it did
pub data RunsUnhit (points : List ℕ) (watches : List Point) (span : Option StepRange) (s : State) : ℕ → State →
    Type 0 where
  none : RunsUnhit points watches span s 0 s
  last : (n : ℕ) (t u : State) → RunsPast points watches span s n t → IsRun t 1 AllSteps u → Hits watches t u None →
      RunsUnhit points watches span s (n + 1) u

-- what the range of a watchpoint is marked with
abbrev pub level_of : WatchedAccess → ℕ
level_of Execute = 0
level_of Write = 1
level_of Read = 2
level_of Either = 2

-- the paragraphs of a watchpoint's range have this level or a higher one
abbrev pub HasLevel : ℕ → List ℕ → Point → Type 0
HasLevel level ms p = (a : ℕ) → is_in_range p a ≡ true → level ≤ level_at ms (a / 16)

-- the range of a watchpoint is marked
abbrev pub IsGuarded : List ℕ → Point → Type 0
IsGuarded ms p = HasLevel (level_of p.access) ms p

-- the range of a watchpoint is marked if its level is this one
abbrev pub IsGuardedAt : ℕ → List ℕ → Point → Type 0
IsGuardedAt level ms p = level_of p.access ≡ level → HasLevel level ms p

-- where `old` has level n or a higher one, `new` has too
abbrev pub Keeps : ℕ → List ℕ → List ℕ → Type 0
Keeps n old new = (p : ℕ) → n ≤ level_at old p → n ≤ level_at new p

-- the pair of the segment with this linear address without A20, if the segment reaches it
abbrev pub pair_at : ℕ → ℕ → List Breakpoint
pair_at segment address = if nat_le (segment * 16) address && nat_le address (segment * 16 + 0xFFFF) then
    record { segment = segment; offset = address - segment * 16 } ∷ [] else []

-- the pairs of the segment whose linear address may be this one: the address itself, or it and 100000h, which is the
-- same address while A20 is off
abbrev pub pairs_at : ℕ → ℕ → List Breakpoint
pairs_at segment address = pair_at segment address ++ pair_at segment (address + 0x100000)

-- the pairs of the segment whose linear address may be one of these
abbrev pub pairs_of : ℕ → List ℕ → List Breakpoint
pairs_of segment points = flat_map (pairs_at segment) points

-- the watched bytes of all watchpoints, in their order
abbrev pub all_bytes : Memory → List Point → List ℕ
all_bytes m watches = flat_map (watched_bytes m) watches
