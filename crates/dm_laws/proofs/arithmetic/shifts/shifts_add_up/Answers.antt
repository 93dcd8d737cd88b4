use Rattle.dm_laws.proofs.arithmetic.Moves.{add_up}
use Rattle.dm_laws.proofs.arithmetic.shifts.shifts_add_up.Goals as goal

pub returns : goal.returns
returns c = add_up
