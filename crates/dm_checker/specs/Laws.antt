-- Laws of checked runs (`check`).
use Rattle.std.specs.Prelude.{◌≡◌, ◌≢◌, ℕ, List, [], ◌∷◌, Some, None}
use Rattle.dm_services.specs.declared.state.stop.Stop.{Stop}
use Rattle.dm_services.specs.declared.state.stop.Stop.TheVariants.{Memory as NoMemory}
use Rattle.dm_services.specs.state.State.{State}
use Rattle.dm_services.specs.declared.functions.Function.TheVariants.{Unknown}
use Rattle.dm_services.specs.Functions.{function_of}
use Rattle.dm_machine.specs.Step.{MakesStep}
use Rattle.dm_machine.specs.Run.{IsRun}
use Rattle.dm_findings.specs.declared.calls.Call.TheVariants.{Dos}
use Rattle.dm_findings.specs.declared.finding.Finding.TheVariants.{Refused}
use Rattle.dm_findings.specs.declared.finding.Found.{Found}
use Rattle.dm_findings.specs.Calls.{call_of}
use Rattle.dm_origins.specs.outcomes.Calls.{call_findings}
use Rattle.dm_checker.specs.Checks.{Checks}

-- a checked run is a run: the same steps, stop and state
abbrev pub ACheckedRunIsARun : Type 0
ACheckedRunIsARun = (s t : State) (n : ℕ) (stop : Stop) (found : List Found) → Checks s n stop t found →
    IsRun s n stop t

-- checked runs of at most as many steps from one state, in which no allocation fails, stop for one reason in one state
-- with one list of findings
abbrev pub CheckHasOneReport : Type 0
CheckHasOneReport =
    (s t u : State) (n : ℕ) (a b : Stop) (fs gs : List Found) → Checks s n a t fs → Checks s n b u gs →
    a ≢ NoMemory → b ≢ NoMemory → (a ≡ b) × (t ≡ u) × (fs ≡ gs)

-- a call of a function of INT 21h that is not served is always found, with code 01h, in the step that performs it
abbrev pub UnservedCallsAreFound : Type 0
UnservedCallsAreFound =
    (s t : State) (number : ℕ) → call_of s.cpu ≡ Some (Dos number) → function_of number ≡ Unknown →
    MakesStep s (record { stop = None; state = t }) → call_findings s.cpu t.cpu (call_of s.cpu) ≡ Refused 1 ∷ []
