-- Who allocated what there is, who freed what is free, and which processes ran, along a run.
use Rattle.std.specs.Prelude.{◌≡◌, ℕ, ◌+◌, if◌then◌else◌, Option, Some, None}
use Rattle.dm_findings.specs.declared.calls.Call.{Call}
use Rattle.dm_findings.specs.declared.calls.Call.TheVariants.{ExpandedMemory, ExtendedMemory}
use Rattle.dm_findings.specs.declared.finding.Origin.{Origin}
use Rattle.dm_findings.specs.Calls.{call_of}
use Rattle.dm_findings.specs.Sites.{site_of}
use Rattle.dm_origins.specs.Origins.{Known, known_first, with_handles, with_extended_memory, with_freed}
use Rattle.dm_services.specs.state.State.{State}
use Rattle.dm_machine.specs.Step.{MakesStep}
use Rattle.dm_checker.specs.Shown.{Shown, IsShown}
use Rattle.dm_origins.specs.outcomes.Calls.{arranges}
use Rattle.dm_checker.specs.Courses.{present_process, with_course}

-- the step from s to t, as who allocated or freed: its number, and where in its code the program performs it
abbrev pub origin_at : State → State → Origin
origin_at s t = record { step = t.steps; site = site_of s.memory s.cpu }

-- l if neither list of blocks breaks at a segment (None for both); else k
abbrev pub if_both_whole : Option ℕ → Option ℕ → Known → Known → Known
if_both_whole None None k l = l
if_both_whole (Some at) new k l = k
if_both_whole None (Some at) k l = k

-- what is known after the step from s to t with this call, if k was known before it: a call of a driver allocated what
-- was not in use, and one that may write headers freed the memory that is in a free block now, and was in
-- none before, and may have started or ended a process. `old` and `new` are what memory shows of the arena before and
-- after the step
abbrev pub known_by : State → State → Shown → Shown → Option Call → Known → Known
known_by s t old new (Some (ExpandedMemory number)) k = with_handles k t.ems (Some (origin_at s t))
known_by s t old new (Some (ExtendedMemory number)) k = with_extended_memory k t.xms t.memory.a20 (Some (origin_at s t))
known_by s t old new call k =
    if arranges s.cpu call then with_course s t call (if_both_whole old.broken new.broken k
    (with_freed k old.headers new.headers (origin_at s t))) else k

-- l is known after the step from s to t, if k was known before it
pub record IsKnownAfter (s t : State) (k l : Known) : Type 0 where
  pub old : Shown
  pub new : Shown
  pub before : IsShown s.upper s.memory old
  pub after : IsShown t.upper t.memory new
  pub is : l ≡ known_by s t old new (call_of s.cpu) k

-- what is known in s, where a run begins
abbrev pub known_at : State → Known
known_at s = known_first s.ems s.xms s.memory.a20 (present_process s)

-- n steps lead from s to this state, none of them ended the program, and this is known after them
pub data OriginsIn (s : State) : ℕ → State → Known → Type 0 where
  here : OriginsIn s 0 s (known_at s)
  further : (n : ℕ) (t u : State) (k l : Known) → OriginsIn s n t k → MakesStep t (record { stop = None; state = u }) →
      IsKnownAfter t u k l → OriginsIn s (n + 1) u l
