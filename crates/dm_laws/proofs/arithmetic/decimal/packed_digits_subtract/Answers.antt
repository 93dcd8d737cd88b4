use Rattle.dm_laws.proofs.arithmetic.Packed.{packed_subtract}
use Rattle.dm_laws.proofs.arithmetic.decimal.packed_digits_subtract.Goals as goal

pub returns : goal.returns
returns c = packed_subtract
