use Rattle.dm_proc.proofs.Loaded.{keep_loaded}
use Rattle.dm_proc.proofs.laws.programs_stay_loaded.Goals as goal

pub returns : goal.returns
returns c = keep_loaded
