-- From what the checker says of a machine to what is said of its session.
use Rattle.std.proofs.Common.{◌≡◌, ◌++◌, ℕ, true, List, refl, sym, subst, arith}
use Rattle.dm_services.specs.declared.state.stop.Stop.{Stop}
use Rattle.dm_services.specs.state.State.{State}
use Rattle.dm_machine.specs.declared.until.Breakpoint.{Breakpoint}
use Rattle.dm_machine.specs.Run.{IsRun}
use Rattle.dm_findings.specs.Report.{Reported}
use Rattle.dm_reports.specs.Reports.{report_text}
use Rattle.dm_reports.specs.Stops.{stopped_line}
use Rattle.dm_checker.specs.Checks.{IsReport, RunsPart}
use Rattle.dm_debug.specs.Debugged.{Debugged}
use Rattle.dm_host.specs.Checking.{IsChecked, IsPartlyChecked}

abbrev over : State → List Breakpoint → Debugged
over m points = record { machine = m; points = points }

pub partly : (s t : Debugged) (m u : State) (points : List Breakpoint) (n : ℕ) → s ≡ over m points → t ≡ over u points →
    RunsPart m n u → IsPartlyChecked s n t
partly s t m u points n before after part =
    subst (λ (x : Debugged). IsPartlyChecked x n t) (sym before) (subst (λ (x : Debugged). IsPartlyChecked
    (over m points) n x) (sym after) (record { part = part; points = refl }))

-- a whole run is a first part
pub as_part : (m u : State) (n : ℕ) (stop : Stop) → IsRun m n stop u → RunsPart m n u
as_part m u n stop run = record { most = n; stop = stop; few = omega arith; run = run }

pub whole : (s t : Debugged) (m u : State) (points : List Breakpoint) (n : ℕ) (stop : Stop) (text : List ℕ)
    (report : Reported) → s ≡ over m points → t ≡ over u points
    → IsRun m n stop u → IsReport m n true stop u report → text ≡ report_text report
    ++ stopped_line stop u.memory u.cpu → IsChecked s n stop report text t
whole s t m u points n stop text report before after run reported told =
    subst (λ (x : Debugged). IsChecked x n stop report text t) (sym before)
    (subst (λ (x : Debugged). IsChecked (over m points) n stop report text x) (sym after)
    (record { run = run; reported = reported; told = told; points = refl }))
