use Rattle.dm_drivers.proofs.Coming.{pages}
use Rattle.dm_drivers.proofs.laws.pages_come.Goals as goal

pub returns : goal.returns
returns c = pages
