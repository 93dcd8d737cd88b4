use Rattle.dm_laws.proofs.arithmetic.Powers.{doubles_or_halves}
use Rattle.dm_laws.proofs.arithmetic.shifts.shifting_doubles_or_halves.Goals as goal

pub returns : goal.returns
returns c = doubles_or_halves
