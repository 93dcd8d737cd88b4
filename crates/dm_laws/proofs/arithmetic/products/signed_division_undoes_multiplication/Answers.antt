use Rattle.dm_laws.proofs.arithmetic.SignedQuotients.{signed_undone}
use Rattle.dm_laws.proofs.arithmetic.products.signed_division_undoes_multiplication.Goals as goal

pub returns : goal.returns
returns c = signed_undone
