use Rattle.dm_laws.proofs.instructions.Popped.{kept}
use Rattle.dm_laws.proofs.instructions.laws.push_then_pop_keeps_registers.Goals as goal

pub returns : goal.returns
returns c = kept
