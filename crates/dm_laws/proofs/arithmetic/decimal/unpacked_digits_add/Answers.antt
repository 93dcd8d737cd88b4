use Rattle.dm_laws.proofs.arithmetic.Unpacked.{unpacked_add}
use Rattle.dm_laws.proofs.arithmetic.decimal.unpacked_digits_add.Goals as goal

pub returns : goal.returns
returns c = unpacked_add
