use Rattle.dm_touches.proofs.Written.{writes_listed}
use Rattle.dm_touches.proofs.laws.writes_are_listed.Goals as goal

pub returns : goal.returns
returns c = writes_listed
