use Rattle.dm_checker.proofs.OneCheck.{checked_run}
use Rattle.dm_checker.proofs.laws.a_checked_run_is_a_run.Goals as goal

pub returns : goal.returns
returns c = checked_run
