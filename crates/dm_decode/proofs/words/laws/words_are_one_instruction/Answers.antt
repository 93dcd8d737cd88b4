use Rattle.dm_decode.proofs.words.One.{words_are_one}
use Rattle.dm_decode.proofs.words.laws.words_are_one_instruction.Goals as goal

pub returns : goal.returns
returns c = words_are_one
