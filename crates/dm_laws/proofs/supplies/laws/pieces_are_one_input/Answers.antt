use Rattle.dm_laws.proofs.supplies.Supplying.{pieces_are_one}
use Rattle.dm_laws.proofs.supplies.laws.pieces_are_one_input.Goals as goal

pub returns : goal.returns
returns c = pieces_are_one
