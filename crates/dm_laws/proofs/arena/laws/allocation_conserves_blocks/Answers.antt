use Rattle.dm_laws.proofs.arena.Conserved.{allocation_conserves}
use Rattle.dm_laws.proofs.arena.laws.allocation_conserves_blocks.Goals as goal

pub returns : goal.returns
returns c = allocation_conserves
