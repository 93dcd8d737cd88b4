use Rattle.dm_laws.proofs.arithmetic.SignedQuotients.{signed_divides}
use Rattle.dm_laws.proofs.arithmetic.products.signed_division_divides.Goals as goal

pub returns : goal.returns
returns c = signed_divides
