use Rattle.dm_laws.proofs.arithmetic.Quotients.{unsigned_divides}
use Rattle.dm_laws.proofs.arithmetic.products.unsigned_division_divides.Goals as goal

pub returns : goal.returns
returns c = unsigned_divides
