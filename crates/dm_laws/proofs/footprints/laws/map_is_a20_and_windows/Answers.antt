use Rattle.dm_laws.proofs.footprints.Maps.{fitting}
use Rattle.dm_laws.proofs.footprints.laws.map_is_a20_and_windows.Goals as goal

pub returns : goal.returns
returns c = fitting
