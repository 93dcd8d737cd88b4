-- The part of `dm check` after its machine is loaded. Private contracts and proofs alone name this.
use Rattle.std.specs.Prelude.{ℕ, ◌≡◌, ◌++◌, Bool, List, Option, Result, Ok, Err}
use Rattle.std.specs.Io.KnownBytes.{Appends, Keeps}
use Rattle.dm_console.specs.writers.Out.{AppendsPart, HasFailed}
use Rattle.dm_services.specs.declared.state.stop.Stop.{Stop}
use Rattle.dm_services.specs.state.State.{State}
use Rattle.dm_machine.specs.Run.{IsRun}
use Rattle.dm_findings.specs.Report.{Reported}
use Rattle.dm_json.specs.declared.forms.Format.{Format}
use Rattle.dm_json.specs.Forms.{lines_in}
use Rattle.dm_findings.specs.declared.processes.process.Process.{Process}
use Rattle.dm_checker.specs.Checks.{IsReport}
use Rattle.dm_checker.specs.Processes.{AreProcesses}
use Rattle.dm_checker.specs.Checking.{UnderWay}
use Rattle.dm_cli.specs.declared.fault.Fault.{Fault}
use Rattle.dm_cli.specs.declared.fault.Fault.TheVariants.{OutOfMemory}
use Rattle.dm_cli.specs.Messages.{Stream, Prints, HasPrinted}
use Rattle.dm_cli.specs.Checking.{IsLost, all_in, checked_status, told_status, unwritten_status, unwritten_line}

-- a checked run of at most n steps from s that was under way (c) stopped for this reason in state t, d has its report
-- and its processes, and the lines of the findings that are listed were printed, or a first part of them (`failed`)
pub record HasFollowed (s : State) (n : ℕ) (form : Format) (c : UnderWay) (stop : Stop) (t : State) (d : UnderWay)
    (failed : Bool) (error_before error_after : Stream) : Type 0 where
  pub report : IsReport s n c.free stop t d.report
  pub processes : AreProcesses s n stop t d.origins.processes
  pub printed : HasPrinted failed (lines_in form d.report.listed) error_before error_after

-- `dm check` once its machine m is loaded, with findings about free memory or without (`free`), and a report of this
-- form: the exit status, after the report was printed and the output written; or after a write of the output failed,
-- after a first part, and the fault was printed behind the report; or an allocation failed, and no output was written
pub data ChecksRun (m : State) (steps : ℕ) (free : Bool) (form : Format) (before after : Option (List ℕ))
    (failed_before failed_after : ℕ) (error_before error_after : Stream) : Result ℕ Fault → Type 0 where
  run_checked : (t : State) (stop : Stop) (report : Reported) (ps : List Process) (failed : Bool) (status : ℕ) →
      IsRun m steps stop t → IsReport m steps free stop t report → AreProcesses m steps stop t ps
      → Appends before after t.console.output → failed_after ≡ failed_before →
      HasPrinted failed (all_in form report ps stop t) error_before error_after →
      status ≡ told_status failed (checked_status report stop)
      → ChecksRun m steps free form before after failed_before failed_after error_before error_after (Ok status)
  output_cut : (t : State) (stop : Stop) (report : Reported) (ps : List Process) (middle : Stream) (failed : Bool)
      (status : ℕ) → IsRun m steps stop t → IsReport m steps free stop t report → AreProcesses m steps stop t ps
      → AppendsPart before after t.console.output → HasFailed failed_before failed_after →
      HasPrinted failed (all_in form report ps stop t) error_before middle
      → Prints unwritten_line middle error_after → status ≡ told_status failed (unwritten_status report) →
      ChecksRun m steps free form before after failed_before failed_after error_before error_after (Ok status)
  no_report : IsLost m steps free form error_before error_after → Keeps before after → failed_after ≡ failed_before →
      ChecksRun m steps free form before after failed_before failed_after error_before error_after (Err OutOfMemory)
