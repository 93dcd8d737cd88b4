use Rattle.dm_space.proofs.moves.Shapes.{moves_keep}
use Rattle.dm_space.proofs.moves.laws.moves_keep_the_map.Goals as goal

pub returns : goal.returns
returns c = moves_keep
