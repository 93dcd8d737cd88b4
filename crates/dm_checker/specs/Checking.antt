-- A checked run that is under way: the steps that it has made, and the report of what is found in them.
use Rattle.std.specs.Prelude.{◌≡◌, ℕ, ◌-◌, ◌<◌, ◌≤◌, Bool, List, [], ◌++◌, map, length, Option, Some, None}
use Rattle.dm_services.specs.declared.state.stop.Stop.{Stop}
use Rattle.dm_services.specs.declared.state.stop.Stop.TheVariants.{Exited, Steps as AllSteps}
use Rattle.dm_services.specs.state.State.{State}
use Rattle.dm_machine.specs.Run.{Answers}
use Rattle.dm_findings.specs.declared.finding.Found.{Found}
use Rattle.dm_findings.specs.declared.report.Listed.{Listed}
use Rattle.dm_findings.specs.Report.{Reported, report_of}
use Rattle.dm_origins.specs.Origins.{Known}
use Rattle.dm_checker.specs.declared.arena_copy.ArenaCopy.{ArenaCopy}
use Rattle.dm_checker.specs.Checks.{FindsAtStop, FindsIn, IsReport, reported}
use Rattle.dm_checker.specs.Processes.{AreProcesses}
use Rattle.dm_checker.specs.Origins.{OriginsIn, known_at}
use Rattle.dm_checker.specs.ArenaCopy.{IsArenaCopy}

-- a checked run under way: the report so far, how many steps it may still make, whether it reports findings about free
-- memory, the exit code of a program that had ended before its first step, if it had, what memory shows of the arena,
-- and what is known of who allocated and who freed, and of processes
pub record UnderWay : Type 0 where
  pub report : Reported
  pub left : ℕ
  pub free : Bool
  pub over : Option ℕ
  pub arena : ArenaCopy
  pub origins : Known

-- the steps that c has made from s, of at most n, led to t, and its report has what is found in them; c has what is
-- known after them of who allocated and who freed
pub record HasMade (s : State) (n : ℕ) (t : State) (c : UnderWay) : Type 0 where
  pub running : s.exited ≡ None
  pub few : c.left ≤ n
  pub found : List Found
  pub finds : FindsIn s (n - c.left) t found
  pub knows : OriginsIn s (n - c.left) t c.origins
  pub reports : c.report ≡ report_of (reported c.free found)

-- c is a checked run of at most n steps from s, which has led to t: it goes on, or the program had ended before (then
-- there is no step, and nothing is found)
pub data IsUnderWay (s : State) (n : ℕ) (t : State) (c : UnderWay) : Type 0 where
  going : c.over ≡ None → HasMade s n t c → IsArenaCopy t.upper t.memory c.arena → IsUnderWay s n t c
  had_ended : (code : ℕ) → c.over ≡ Some code → s.exited ≡ Some code → t ≡ s → c.report ≡ report_of [] →
      c.origins ≡ known_at s → IsUnderWay s n t c

-- the run goes on from `old` to `new` in state t (None), after a step at least; or it stops for a reason, and `new` has
-- the report of the whole run of at most n steps from s
abbrev pub RunGoesOn : State → ℕ → Option Stop → State → UnderWay → UnderWay → Type 0
RunGoesOn s n None t old new = IsUnderWay s n t new × (new.left < old.left) × (new.free ≡ old.free)
RunGoesOn s n (Some stop) t old new = IsReport s n old.free stop t new.report

-- where the run stops for a reason, c has the processes of the whole run
abbrev pub HasProcesses : State → ℕ → Option Stop → State → UnderWay → Type 0
HasProcesses s n None t c = Unit {0}
HasProcesses s n (Some stop) t c = AreProcesses s n stop t c.origins.processes

-- the findings of lines
abbrev pub founds : List Listed → List Found
founds ls = map (λ l. l.found) ls

-- the findings that are listed in `old` are the first of those that are listed in `new`
pub record IsLonger (old new : Reported) : Type 0 where
  pub more : List Found
  pub is : founds new.listed ≡ founds old.listed ++ more

-- ---- the first finding that is not listed yet

-- of the findings fs the report lists those that c lists, and no others
abbrev pub ListsSame : UnderWay → List Found → Type 0
ListsSame c fs = founds (report_of (reported c.free fs)).listed ≡ founds c.report.listed

-- the run of at most n steps from s goes on from `old` to the first step after which its report lists more, and pauses
-- there (None), or stops before; what is found up to the step before that one is listed by `old`. The report is that of
-- all that is found
pub data GoesToFirst (s : State) (n : ℕ) (old : UnderWay) (t : State) (new : UnderWay) : Option Stop → Type 0 where
  lists_more : (before : State) (fs gs : List Found) → s.exited ≡ None → new.left < n →
      FindsIn s (n - new.left - 1) before fs → ListsSame old fs
      → FindsIn s (n - new.left) t gs → length old.report.listed < length new.report.listed →
      new.report ≡ report_of (reported old.free gs) → GoesToFirst s n old t new None
  over : (code : ℕ) → s.exited ≡ Some code → t ≡ s → new.report ≡ report_of [] →
      GoesToFirst s n old t new (Some (Exited code))
  whole : (fs : List Found) → s.exited ≡ None → FindsIn s n t fs → ListsSame old fs →
      new.report ≡ report_of (reported old.free fs) → GoesToFirst s n old t new (Some AllSteps)
  cut : (made : ℕ) (before : State) (k : Known) (fs gs : List Found) (stop : Stop) → s.exited ≡ None → made < n →
      FindsIn s made before fs → OriginsIn s made before k
      → ListsSame old fs → Answers before (Some stop) t → FindsAtStop before stop t k gs →
      new.report ≡ report_of (reported old.free (fs ++ gs)) → GoesToFirst s n old t new (Some stop)
