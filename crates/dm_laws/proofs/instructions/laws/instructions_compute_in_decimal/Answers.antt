use Rattle.dm_laws.proofs.instructions.Decimals.{compute}
use Rattle.dm_laws.proofs.instructions.laws.instructions_compute_in_decimal.Goals as goal

pub returns : goal.returns
returns c = compute
