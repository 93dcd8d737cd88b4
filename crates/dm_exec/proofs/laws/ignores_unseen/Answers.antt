use Rattle.dm_exec.proofs.Unseen.{effect-unseen}
use Rattle.dm_exec.proofs.laws.ignores_unseen.Goals as goal

pub returns : goal.returns
returns c = effect-unseen
