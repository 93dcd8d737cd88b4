use Rattle.dm_laws.proofs.arithmetic.Unpacked.{unpacked_subtract}
use Rattle.dm_laws.proofs.arithmetic.decimal.unpacked_digits_subtract.Goals as goal

pub returns : goal.returns
returns c = unpacked_subtract
