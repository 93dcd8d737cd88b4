-- A run of the machine of the options.
use Rattle.std.proofs.Common.{ℕ, List, Option, Result}
use Rattle.dm_options.specs.declared.command_line.MachineOptions.{MachineOptions}
use Rattle.dm_services.specs.declared.state.stop.Stop.{Stop}
use Rattle.dm_services.specs.state.State.{State}
use Rattle.dm_cli.specs.declared.fault.Fault.{Fault}
use Rattle.dm_cli.specs.Program.{Runs, ran, partly_written}
use Rattle.dm_cli.specs.Starting.{IsStartedBy}
use Rattle.dm_cli.specs.inner.Program.{RunsMachine, machine_ran, output_cut}

pub run_of_machine : (files : List ℕ → Option (List ℕ)) (typed : Option (List ℕ)) (o : MachineOptions) (m : State) →
    IsStartedBy files typed o m
    → (before after : Option (List ℕ)) (failed_before failed_after : ℕ) (r : Result Stop Fault) →
    RunsMachine m o.steps before after failed_before failed_after r
    → Runs files typed o before after failed_before failed_after r
run_of_machine files typed o m started b a f g _ (machine_ran t stop run whole none) =
    ran m t stop started run whole none
run_of_machine files typed o m started b a f g _ (output_cut t stop fault run part failed is) =
    partly_written m t stop fault started run part failed is
