use Rattle.dm_exec.proofs.Halts.{halt_keeps}
use Rattle.dm_exec.proofs.laws.halt_changes_nothing.Goals as goal

pub returns : goal.returns
returns c = halt_keeps
