-- What is found in a run, step by step, and at its end.
use Rattle.std.specs.Prelude.{◌≡◌, ℕ, ◌+◌, ◌<◌, ◌≤◌, not, Bool, if◌then◌else◌, List, [], ◌∷◌, ◌++◌, ◌&&◌, Option, Some, None}
use Rattle.dm_services.specs.declared.state.stop.Stop.{Stop}
use Rattle.dm_services.specs.declared.state.stop.Stop.TheVariants.{Exited, Steps as AllSteps, Halted, Unlisted, InputEnded, Destroyed, Memory as NoMemory}
use Rattle.dm_services.specs.state.State.{State}
use Rattle.dm_machine.specs.Step.{MakesStep}
use Rattle.dm_machine.specs.Run.{Answers, IsRun}
use Rattle.dm_findings.specs.declared.calls.Call.{Call}
use Rattle.dm_findings.specs.declared.finding.Finding.{Finding}
use Rattle.dm_findings.specs.declared.finding.Found.{Found}
use Rattle.dm_findings.specs.Calls.{call_of}
use Rattle.dm_findings.specs.Findings.{is_of_free_memory}
use Rattle.dm_findings.specs.Report.{Reported, report_of}
use Rattle.dm_origins.specs.outcomes.Calls.{call_stays_resident}
use Rattle.dm_origins.specs.leaks.Leaks.{leaks}
use Rattle.dm_origins.specs.Origins.{Known}
use Rattle.dm_checker.specs.Findings.{Finds, IsFound}
use Rattle.dm_checker.specs.Origins.{IsKnownAfter, OriginsIn}

-- `found` is what is found of a step from s to t after which the machine goes on; k is what is known after it of who
-- allocated and who freed
pub record FindsAt (s t : State) (k : Known) (found : List Found) : Type 0 where
  pub findings : List Finding
  pub finds : Finds s t findings
  pub told : IsFound s t k findings found

-- what a program that ended by this call left allocated, or holds if it stays resident, by the state t after it; none
-- if there was no call
abbrev pub left_by : Option Call → State → List Finding
left_by None t = []
left_by (Some call) t = leaks (call_stays_resident call) t

-- what the first program left allocated, or holds, by the state t after the step from s that ended it
abbrev pub left_behind : State → State → List Finding
left_behind s t = left_by (call_of s.cpu) t

-- `found` is what is found of the step from s to t that ends the first program, and what the program left allocated, or
-- holds if it stays resident; k is what is known before it of who allocated and who freed
pub record FindsAtEnd (s t : State) (k : Known) (found : List Found) : Type 0 where
  pub findings : List Finding
  pub finds : Finds s t findings
  pub known : Known
  pub knows : IsKnownAfter s t k known
  pub told : IsFound s t known (findings ++ left_behind s t) found

-- `found` is what is found where a run stops for this reason: with `Exited` a last step was made, with any other stop
-- there is nothing. k is what is known in s of who allocated and who freed
abbrev pub FindsAtStop : State → Stop → State → Known → List Found → Type 0
FindsAtStop s (Exited code) t k found = FindsAtEnd s t k found
FindsAtStop s AllSteps t k found = found ≡ []
FindsAtStop s Halted t k found = found ≡ []
FindsAtStop s Unlisted t k found = found ≡ []
FindsAtStop s InputEnded t k found = found ≡ []
FindsAtStop s Destroyed t k found = found ≡ []
FindsAtStop s NoMemory t k found = found ≡ []

-- n steps lead from s to this state, none of them ended the program, and this is what is found in them, in their order
pub data FindsIn (s : State) : ℕ → State → List Found → Type 0 where
  here : FindsIn s 0 s []
  further : (n : ℕ) (t u : State) (k l : Known) (fs gs : List Found) → FindsIn s n t fs → OriginsIn s n t k →
      MakesStep t (record { stop = None; state = u }) → IsKnownAfter t u k l → FindsAt t u l gs →
      FindsIn s (n + 1) u (fs ++ gs)

-- a run of at most n steps from s stops for this reason and leaves t, and `found` is what is found in it: the program
-- had ended before (`over`), n steps were made (`whole`), or a stop came earlier (`cut`)
pub data Checks (s : State) (n : ℕ) (stop : Stop) (t : State) (found : List Found) : Type 0 where
  over : (code : ℕ) → s.exited ≡ Some code → stop ≡ Exited code → t ≡ s → found ≡ [] → Checks s n stop t found
  whole : s.exited ≡ None → stop ≡ AllSteps → FindsIn s n t found → Checks s n stop t found
  cut : (made : ℕ) (before : State) (k : Known) (fs gs : List Found) → s.exited ≡ None → made < n →
      FindsIn s made before fs → OriginsIn s made before k → Answers before (Some stop) t →
      FindsAtStop before stop t k gs → found ≡ fs ++ gs → Checks s n stop t found

-- the findings that are reported: all of them, or, unless free memory is looked at (`free`), those that are not about
-- it
abbrev pub reported : Bool → List Found → List Found
reported free [] = []
reported free (f ∷ fs) = if not free && is_of_free_memory f.finding then reported free fs else f ∷ reported free fs

-- `report` is the report of a run of at most n steps from s, which stops for this reason and leaves t; `free` is
-- whether it has findings about free memory
pub record IsReport (s : State) (n : ℕ) (free : Bool) (stop : Stop) (t : State) (report : Reported) : Type 0 where
  pub found : List Found
  pub checks : Checks s n stop t found
  pub is : report ≡ report_of (reported free found)

-- some run of at most n steps from s leaves t
pub record RunsPart (s : State) (n : ℕ) (t : State) : Type 0 where
  pub most : ℕ
  pub stop : Stop
  pub few : most ≤ n
  pub run : IsRun s most stop t
