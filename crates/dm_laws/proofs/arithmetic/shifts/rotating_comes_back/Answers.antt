use Rattle.dm_laws.proofs.arithmetic.Turns.{comes_back}
use Rattle.dm_laws.proofs.arithmetic.shifts.rotating_comes_back.Goals as goal

pub returns : goal.returns
returns c = comes_back
