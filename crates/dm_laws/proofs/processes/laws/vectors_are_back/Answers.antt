use Rattle.dm_laws.proofs.processes.Vectors.{vectors_kept}
use Rattle.dm_laws.proofs.processes.laws.vectors_are_back.Goals as goal

pub returns : goal.returns
returns c = vectors_kept
