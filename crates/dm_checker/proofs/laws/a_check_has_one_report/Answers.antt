use Rattle.dm_checker.proofs.OneCheck.{check_once}
use Rattle.dm_checker.proofs.laws.a_check_has_one_report.Goals as goal

pub returns : goal.returns
returns c = check_once
