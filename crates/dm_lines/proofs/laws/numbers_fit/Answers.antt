use Rattle.dm_lines.proofs.Fitting.{numbers_fit}
use Rattle.dm_lines.proofs.laws.numbers_fit.Goals as goal

pub returns : goal.returns
returns c = numbers_fit
