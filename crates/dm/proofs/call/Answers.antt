use Rattle.std.proofs.Common.{rules}
use Rattle.dm.proofs.call.Goals as goal

pub returns : goal.returns
returns g c = record { given = _; produced = _; does = c.dm_main.ensures; is = search rules }
