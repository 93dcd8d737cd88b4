use Rattle.dm_laws.proofs.arena.Conserved.{freeing_conserves}
use Rattle.dm_laws.proofs.arena.laws.freeing_conserves_blocks.Goals as goal

pub returns : goal.returns
returns c = freeing_conserves
