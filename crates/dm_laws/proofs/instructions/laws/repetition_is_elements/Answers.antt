use Rattle.dm_laws.proofs.instructions.Repeated.{repetition}
use Rattle.dm_laws.proofs.instructions.laws.repetition_is_elements.Goals as goal

pub returns : goal.returns
returns c = repetition
