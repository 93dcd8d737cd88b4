use Rattle.dm_space.proofs.Places.{poke-shaped}
use Rattle.dm_space.proofs.reach.writes_keep_the_map.Goals as goal

pub returns : goal.returns
returns c = poke-shaped
