-- The part of `dm run` after its machine is loaded. Private contracts and proofs alone name this.
use Rattle.std.specs.Prelude.{ℕ, ◌≡◌, List, Option, Result, Ok, Err}
use Rattle.std.specs.Io.KnownBytes.{Appends}
use Rattle.dm_console.specs.writers.Out.{AppendsPart, HasFailed}
use Rattle.dm_services.specs.declared.state.stop.Stop.{Stop}
use Rattle.dm_services.specs.state.State.{State}
use Rattle.dm_machine.specs.Run.{IsRun}
use Rattle.dm_cli.specs.declared.fault.Fault.{Fault}
use Rattle.dm_cli.specs.Faults.{IsWriteFault}

-- `dm run` once its machine m is loaded: the whole output of the run was written; or a first part of it, if a write
-- failed
pub data RunsMachine (m : State) (steps : ℕ) (before after : Option (List ℕ)) (failed_before failed_after : ℕ) : Result
    Stop Fault → Type 0 where
  machine_ran : (t : State) (stop : Stop) → IsRun m steps stop t → Appends before after t.console.output →
      failed_after ≡ failed_before
      → RunsMachine m steps before after failed_before failed_after (Ok stop)
  output_cut : (t : State) (stop : Stop) (fault : Fault) → IsRun m steps stop t →
      AppendsPart before after t.console.output → HasFailed failed_before failed_after → IsWriteFault fault
      → RunsMachine m steps before after failed_before failed_after (Err fault)
