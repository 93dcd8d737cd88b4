use Rattle.dm_drivers.proofs.Keeping.{keep}
use Rattle.dm_drivers.proofs.laws.drivers_keep.Goals as goal

pub returns : goal.returns
returns c = keep
