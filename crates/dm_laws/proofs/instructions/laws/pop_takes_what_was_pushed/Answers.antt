use Rattle.dm_laws.proofs.instructions.Popped.{taken}
use Rattle.dm_laws.proofs.instructions.laws.pop_takes_what_was_pushed.Goals as goal

pub returns : goal.returns
returns c = taken
