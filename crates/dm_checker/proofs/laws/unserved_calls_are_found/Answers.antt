use Rattle.dm_checker.proofs.Unserved.{unserved_found}
use Rattle.dm_checker.proofs.laws.unserved_calls_are_found.Goals as goal

pub returns : goal.returns
returns c = unserved_found
