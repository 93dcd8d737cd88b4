use Rattle.dm_laws.proofs.arena.Released.{pair_then_release}
use Rattle.dm_laws.proofs.arena.laws.pair_then_release_joins.Goals as goal

pub returns : goal.returns
returns c = pair_then_release
