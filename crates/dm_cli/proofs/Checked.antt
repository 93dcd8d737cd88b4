-- A checked run.
use Rattle.std.proofs.Common.{ℕ, not, List, Option, Result}
use Rattle.dm_options.specs.declared.command_line.CheckOptions.{CheckOptions}
use Rattle.dm_services.specs.state.State.{State}
use Rattle.dm_json.specs.Forms.{report_form}
use Rattle.dm_cli.specs.declared.fault.Fault.{Fault}
use Rattle.dm_cli.specs.Checking.{Checks, checked, partly_written, no_memory}
use Rattle.dm_cli.specs.Messages.{Stream}
use Rattle.dm_cli.specs.Starting.{IsStartedBy}
use Rattle.dm_cli.specs.inner.Checking.{ChecksRun, run_checked, output_cut, no_report}

-- the machine of the options was checked
pub check_of_run : (files : List ℕ → Option (List ℕ)) (typed : Option (List ℕ)) (o : CheckOptions) (m : State) →
    IsStartedBy files typed o.machine m
    → (before after : Option (List ℕ)) (failed_before failed_after : ℕ) (error_before error_after : Stream)
    (r : Result ℕ Fault)
    → ChecksRun m o.machine.steps (not o.no_free) (report_form o.json) before after failed_before failed_after
    error_before error_after r → Checks files typed o before after failed_before failed_after error_before
    error_after r
check_of_run files typed o m started b a f g e h _ (run_checked t stop report ps told status run is_report are whole
    none printed is) =
    checked m t stop report ps told status started run is_report are whole none printed is
check_of_run files typed o m started b a f g e h _ (output_cut t stop report ps middle cut status run is_report are part
    failed printed told status_is) =
    partly_written m t stop report ps middle cut status started run is_report are part failed printed told status_is
check_of_run files typed o m started b a f g e h _ (no_report lost kept same) = no_memory m started lost kept same
