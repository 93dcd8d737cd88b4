use Rattle.dm_laws.proofs.arena.Conserved.{resizing_conserves}
use Rattle.dm_laws.proofs.arena.laws.resizing_conserves_blocks.Goals as goal

pub returns : goal.returns
returns c = resizing_conserves
