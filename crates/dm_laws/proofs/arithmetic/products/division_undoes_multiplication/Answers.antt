use Rattle.dm_laws.proofs.arithmetic.Quotients.{undone}
use Rattle.dm_laws.proofs.arithmetic.products.division_undoes_multiplication.Goals as goal

pub returns : goal.returns
returns c = undone
