-- Runs of a host's machine under the memory checker, and their reports.
use Rattle.std.specs.Prelude.{◌≡◌, ◌++◌, ℕ, true, List, None}
use Rattle.dm_services.specs.declared.state.stop.Stop.{Stop}
use Rattle.dm_machine.specs.Run.{IsRun}
use Rattle.dm_findings.specs.Report.{Reported}
use Rattle.dm_reports.specs.Reports.{report_text}
use Rattle.dm_reports.specs.Stops.{stopped_line}
use Rattle.dm_checker.specs.Checks.{IsReport, RunsPart}
use Rattle.dm_debug.specs.Debugged.{Debugged}
use Rattle.dm_host.specs.declared.refusal.Refusal.{Refusal}
use Rattle.dm_host.specs.declared.refusal.Refusal.TheVariants.{NotLoaded, Memory}
use Rattle.dm_host.specs.declared.host.Stage.TheVariants.{Loaded}
use Rattle.dm_host.specs.Hosts.{Hosted, with_stage, machine_of}

-- a checked run of at most n steps leads from session s to t, with this stop, this report and this text, of the report
-- and the line about the stop; the breakpoints stay
pub record IsChecked (s : Debugged) (n : ℕ) (stop : Stop) (report : Reported) (text : List ℕ)
    (t : Debugged) : Type 0 where
  pub run : IsRun s.machine n stop t.machine
  pub reported : IsReport s.machine n true stop t.machine report
  pub told : text ≡ report_text report ++ stopped_line stop t.machine.memory t.machine.cpu
  pub points : t.points ≡ s.points

-- a run of some number of steps, from 0 to n, leads from session s to t; the breakpoints stay
pub record IsPartlyChecked (s : Debugged) (n : ℕ) (t : Debugged) : Type 0 where
  pub part : RunsPart s.machine n t.machine
  pub points : t.points ≡ s.points

-- a checked run of at most n steps leads from host h to g, which keeps the report, and whose answer is the text of it
-- with the line about the stop
pub record Checks (h : Hosted) (n : ℕ) (stop : Stop) (g : Hosted) : Type 0 where
  pub before : Debugged
  pub after : Debugged
  pub report : Reported
  pub text : List ℕ
  pub loaded : h.stage ≡ Loaded before
  pub checked : IsChecked before n stop report text after
  pub is : g ≡ record { stage = Loaded after; answer = text; report = report }

-- why a checked run has no report, and the host g after it: no program is loaded, and nothing has changed; or an
-- allocation failed, after none, some or all of the steps. The answer and the report before stay
pub data IsUnchecked (h : Hosted) (n : ℕ) (why : Refusal) (g : Hosted) : Type 0 where
  not_loaded : machine_of h.stage ≡ None → why ≡ NotLoaded → g ≡ h → IsUnchecked h n why g
  no_memory : (s t : Debugged) → h.stage ≡ Loaded s → IsPartlyChecked s n t → why ≡ Memory →
      g ≡ with_stage h (Loaded t) → IsUnchecked h n why g
