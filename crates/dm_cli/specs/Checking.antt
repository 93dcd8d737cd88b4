-- What `dm check` does: a run with a report of its findings on standard error.
use Rattle.std.specs.Prelude.{ℕ, ◌≡◌, ◌≤◌, ◌++◌, not, nat_lt, Bool, if◌then◌else◌, List, [], ◌∷◌, Option, Some, Result, Ok, Err, codes}
use Rattle.std.specs.Io.KnownBytes.{Appends, Keeps}
use Rattle.dm_options.specs.declared.command_line.CheckOptions.{CheckOptions}
use Rattle.dm_console.specs.writers.Out.{AppendsPart, HasFailed}
use Rattle.dm_services.specs.declared.state.stop.Stop.{Stop}
use Rattle.dm_services.specs.state.State.{State}
use Rattle.dm_machine.specs.Run.{IsRun}
use Rattle.dm_findings.specs.declared.finding.Found.{Found}
use Rattle.dm_findings.specs.Report.{Reported, report_of}
use Rattle.dm_json.specs.declared.forms.Format.{Format}
use Rattle.dm_json.specs.Forms.{report_form, lines_in, report_in, processes_in, end_in}
use Rattle.dm_findings.specs.declared.processes.process.Process.{Process}
use Rattle.dm_checker.specs.Checks.{FindsIn, IsReport, reported}
use Rattle.dm_checker.specs.Processes.{AreProcesses}
use Rattle.dm_cli.specs.declared.fault.Fault.{Fault}
use Rattle.dm_cli.specs.declared.fault.Fault.TheVariants.{OutOfMemory}
use Rattle.dm_cli.specs.Messages.{Stream, Prints, HasPrinted}
use Rattle.dm_cli.specs.Starting.{IsStartedBy, IsStartFault}
use Rattle.dm_cli.specs.Statuses.{stop_status}

-- the exit status of a checked run: 124 if there is an error, whatever the stop; otherwise that of the stop
abbrev pub checked_status : Reported → Stop → ℕ
checked_status report stop = if nat_lt 0 report.errors then 124 else stop_status stop

-- the exit status of a checked run whose output was not written whole: 124 if there is an error; otherwise that of a
-- fault
abbrev pub unwritten_status : Reported → ℕ
unwritten_status report = if nat_lt 0 report.errors then 124 else 126

-- the exit status of a checked run whose report was written whole, or not (`failed`): then that of a fault
abbrev pub told_status : Bool → ℕ → ℕ
told_status failed status = if failed then 126 else status

-- the line of the fault that standard output was not written
abbrev pub unwritten_line : List ℕ
unwritten_line = codes "dm: cannot write standard output" ++ 10 ∷ []

-- an allocation failed during a run of at most n steps from s, or after it: the lines of the findings that are listed
-- of some first steps of it, or of all of it, were printed in the form of the report, and no more of it
pub data IsLost (s : State) (n : ℕ) (free : Bool) (form : Format) (error_before error_after : Stream) : Type 0 where
  some_steps : (made : ℕ) (t : State) (found : List Found) → made ≤ n → FindsIn s made t found →
      Prints (lines_in form (report_of (reported free found)).listed) error_before error_after
      → IsLost s n free form error_before error_after
  all_steps : (stop : Stop) (t : State) (report : Reported) → IsReport s n free stop t report →
      Prints (lines_in form report.listed) error_before error_after
      → IsLost s n free form error_before error_after

-- what is printed of a run that stopped: its report, the lines about its processes, and the line about its end
abbrev pub all_in : Format → Reported → List Process → Stop → State → List ℕ
all_in form report ps stop t = report_in form report ++ processes_in form ps ++ end_in form stop t.memory t.cpu

-- `dm check`: the machine runs as for `dm run`; findings about free memory are left out by `--no-free`, and the
-- report is JSON by `--json`. The result is the exit status: the report with the processes and the end of the run was
-- printed on standard error, or a first part of it (`failed`), and the whole output written to standard output; or a
-- write of the output failed, after a first part, and the line of that fault was printed behind the report (`middle` is
-- standard error between the two). Otherwise it is a fault: nothing was written to standard output, no write of it
-- failed, and a part of the report may have been printed
pub data Checks (files : List ℕ → Option (List ℕ)) (typed : Option (List ℕ)) (o : CheckOptions)
    (before after : Option (List ℕ)) (failed_before failed_after : ℕ) (error_before error_after : Stream) : Result ℕ
    Fault → Type 0 where
  checked : (m t : State) (stop : Stop) (report : Reported) (ps : List Process) (failed : Bool) (status : ℕ) →
      IsStartedBy files typed o.machine m → IsRun m o.machine.steps stop t →
      IsReport m o.machine.steps (not o.no_free) stop t report → AreProcesses m o.machine.steps stop t ps
      → Appends before after t.console.output → failed_after ≡ failed_before →
      HasPrinted failed (all_in (report_form o.json) report ps stop t) error_before error_after →
      status ≡ told_status failed (checked_status report stop)
      → Checks files typed o before after failed_before failed_after error_before error_after (Ok status)
  partly_written : (m t : State) (stop : Stop) (report : Reported) (ps : List Process) (middle : Stream) (failed : Bool)
      (status : ℕ) → IsStartedBy files typed o.machine m → IsRun m o.machine.steps stop t →
      IsReport m o.machine.steps (not o.no_free) stop t report → AreProcesses m o.machine.steps stop t ps
      → AppendsPart before after t.console.output → HasFailed failed_before failed_after →
      HasPrinted failed (all_in (report_form o.json) report ps stop t) error_before middle
      → Prints unwritten_line middle error_after → status ≡ told_status failed (unwritten_status report) →
      Checks files typed o before after failed_before failed_after error_before error_after (Ok status)
  no_memory : (m : State) → IsStartedBy files typed o.machine m →
      IsLost m o.machine.steps (not o.no_free) (report_form o.json) error_before error_after → Keeps before after →
      failed_after ≡ failed_before
      → Checks files typed o before after failed_before failed_after error_before error_after (Err OutOfMemory)
  not_started : (fault : Fault) → IsStartFault files typed (Some (codes "standard input")) o.machine fault →
      Keeps before after → failed_after ≡ failed_before → error_after ≡ error_before
      → Checks files typed o before after failed_before failed_after error_before error_after (Err fault)

-- the exit status of `dm check`: that of the checked run, or 126 at a fault
abbrev pub check_status : Result ℕ Fault → ℕ
check_status (Ok status) = status
check_status (Err fault) = 126
