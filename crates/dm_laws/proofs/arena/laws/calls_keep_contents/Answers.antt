use Rattle.dm_laws.proofs.arena.Kept.{keeps_contents}
use Rattle.dm_laws.proofs.arena.laws.calls_keep_contents.Goals as goal

pub returns : goal.returns
returns c = keeps_contents
