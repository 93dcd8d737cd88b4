use Rattle.dm_machine.proofs.OneUntil.{until_one}
use Rattle.dm_machine.proofs.laws.there_is_one_run_until.Goals as goal

pub returns : goal.returns
returns c = until_one
