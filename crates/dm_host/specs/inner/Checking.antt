-- The run of a session under the checker. Private contracts and proofs alone name this.
use Rattle.std.specs.Prelude.{ℕ, List, Option, Some, None}
use Rattle.dm_services.specs.declared.state.stop.Stop.{Stop}
use Rattle.dm_debug.specs.Debugged.{Debugged}
use Rattle.dm_findings.specs.Report.{Reported}
use Rattle.dm_host.specs.Checking.{IsChecked, IsPartlyChecked}

-- a run of at most n steps under the checker leads from session s to t: with the stop, the report and its text; or, if
-- an allocation failed (None), none, some or all of the steps were made
abbrev pub ChecksTo : Debugged → ℕ → Option (Stop × Reported × List ℕ) → Debugged → Type 0
ChecksTo s n (Some r) t = IsChecked s n r.0 r.1 r.2 t
ChecksTo s n None t = IsPartlyChecked s n t
