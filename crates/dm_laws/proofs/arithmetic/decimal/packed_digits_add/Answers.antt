use Rattle.dm_laws.proofs.arithmetic.Packed.{packed_add}
use Rattle.dm_laws.proofs.arithmetic.decimal.packed_digits_add.Goals as goal

pub returns : goal.returns
returns c = packed_add
