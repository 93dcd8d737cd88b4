use Rattle.dm_proc.proofs.Unseen.{ignores_unseen}
use Rattle.dm_proc.proofs.laws.ignores_unseen.Goals as goal

pub returns : goal.returns
returns c = ignores_unseen
