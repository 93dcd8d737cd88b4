use Rattle.dm_laws.proofs.supplies.Supplying.{steps_take}
use Rattle.dm_laws.proofs.supplies.laws.steps_take_more_input.Goals as goal

pub returns : goal.returns
returns c = steps_take
