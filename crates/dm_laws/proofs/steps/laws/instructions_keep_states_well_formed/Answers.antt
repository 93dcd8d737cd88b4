use Rattle.dm_laws.proofs.steps.Steps.{kept}
use Rattle.dm_laws.proofs.steps.laws.instructions_keep_states_well_formed.Goals as goal

pub returns : goal.returns
returns c = kept
