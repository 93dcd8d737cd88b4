use Rattle.std.proofs.Common.{◌≡◌, ℕ, length}
use Rattle.dm_services.specs.state.State.{State, HasProgram}
use Rattle.dm_json.specs.Forms.{lines_in}
use Rattle.dm_checker.specs.Checking.{IsUnderWay}
use Rattle.dm_cli.specs.Messages.{HasPrinted}
use Rattle.dm_cli.proofs.checking.follow.Given as goal

abbrev pub invariant-loop-stop : goal.invariant-loop-stop
invariant-loop-stop g l = record {
  way : (s : State) (n : ℕ) → IsUnderWay s n l.fn.machine l.fn.run → IsUnderWay s n l.machine l.run;
  free : l.run.free ≡ l.fn.run.free;
  count : l.count ≡ length l.run.report.listed;
  printed : HasPrinted l.failed (lines_in l.fn.form l.run.report.listed) (record {
    bytes = g.E.Out.taken l.fn.error;
    failures = g.E.Out.failures l.fn.error;
  })
      (record { bytes = g.E.Out.taken l.error; failures = g.E.Out.failures l.error });
  program : HasProgram l.machine;
}

-- the steps that are left
abbrev pub decreases-loop-stop : goal.decreases-loop-stop
decreases-loop-stop g l = l.run.left
