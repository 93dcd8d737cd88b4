use Rattle.std.proofs.Common.{refl}
use Rattle.dm_cli.specs.inner.Program.{machine_ran, output_cut}
use Rattle.dm_cli.proofs.commands.run_machine.Goals as goal

pub returns-in-Ok-clause-does : goal.returns-in-Ok-clause-does
returns-in-Ok-clause-does g c = machine_ran _ _ c.in-Ok.ensures.run c.in-Ok.ensures.ok c.in-Ok.ensures.no_failure

pub returns-in-Err-clause-does : goal.returns-in-Err-clause-does
returns-in-Err-clause-does g c = output_cut _ c.in-Err.ensures.ran.0 _ c.in-Err.ensures.ran.1 c.in-Err.ensures.part
    c.in-Err.ensures.err refl
