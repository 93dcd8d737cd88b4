use Rattle.dm_asm.proofs.OneAnswer.{one_answer}
use Rattle.dm_asm.proofs.laws.texts_have_one_answer.Goals as goal

pub returns : goal.returns
returns c = one_answer c.words_are_one_instruction.ensures
