use Rattle.dm_laws.proofs.arithmetic.Numbers.{numbers}
use Rattle.dm_laws.proofs.arithmetic.decimal.numbers_add_and_subtract.Goals as goal

pub returns : goal.returns
returns c = numbers
