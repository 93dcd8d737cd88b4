use Rattle.dm_machine.proofs.OneRun.{goes-one}
use Rattle.dm_machine.proofs.OneStop.{run-one}
use Rattle.dm_machine.proofs.laws.there_is_one_run.Goals as goal

pub returns-clause-steps : goal.returns-clause-steps
returns-clause-steps c = goes-one

pub returns-clause-stops : goal.returns-clause-stops
returns-clause-stops c = run-one
