use Rattle.dm_asm.proofs.Spelled.{texts_are_spelled}
use Rattle.dm_asm.proofs.laws.texts_are_spelled.Goals as goal

pub returns : goal.returns
returns c = texts_are_spelled c.words_are_one_instruction.ensures
