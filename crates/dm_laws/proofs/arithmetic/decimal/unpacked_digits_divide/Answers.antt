use Rattle.dm_laws.proofs.arithmetic.Unpacked.{unpacked_divide}
use Rattle.dm_laws.proofs.arithmetic.decimal.unpacked_digits_divide.Goals as goal

pub returns : goal.returns
returns c = unpacked_divide
