use Rattle.dm_laws.proofs.arithmetic.Unpacked.{unpacked_multiply}
use Rattle.dm_laws.proofs.arithmetic.decimal.unpacked_digits_multiply.Goals as goal

pub returns : goal.returns
returns c = unpacked_multiply
