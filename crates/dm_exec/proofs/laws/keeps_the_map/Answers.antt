use Rattle.dm_exec.proofs.Map.{effect-kept}
use Rattle.dm_exec.proofs.laws.keeps_the_map.Goals as goal

pub returns : goal.returns
returns c = effect-kept
