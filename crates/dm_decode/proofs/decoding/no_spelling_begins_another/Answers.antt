use Rattle.dm_decode.proofs.Exact.{no_front}
use Rattle.dm_decode.proofs.decoding.no_spelling_begins_another.Goals as goal

pub returns : goal.returns
returns c = no_front
