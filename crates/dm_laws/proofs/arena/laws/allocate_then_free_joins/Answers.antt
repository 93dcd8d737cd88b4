use Rattle.dm_laws.proofs.arena.Returned.{allocate_then_free}
use Rattle.dm_laws.proofs.arena.laws.allocate_then_free_joins.Goals as goal

pub returns : goal.returns
returns c = allocate_then_free
