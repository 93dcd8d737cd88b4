use Rattle.std.proofs.Common.{sym}
use Rattle.dm_pool.specs.Gaps.{gaps}
use Rattle.dm_pool.proofs.Gaps.{fit_is_lowest}
use Rattle.dm_pool.proofs.Maximal.{gaps_are}
use Rattle.dm_pool.proofs.laws.lowest_gap_is_first_fit.Goals as goal

pub returns : goal.returns
returns c = λ bs n u based pos. sym (fit_is_lowest bs n u (gaps bs n) pos (gaps_are bs n based))
