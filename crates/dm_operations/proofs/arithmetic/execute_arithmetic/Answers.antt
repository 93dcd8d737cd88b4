use Rattle.std.proofs.Common.{◌∙◌, sym}
use Rattle.dm_operations.proofs.ByWidth.{by_width}
use Rattle.dm_operations.proofs.arithmetic.execute_arithmetic.Goals as goal

pub returns-in-Byte : goal.returns-in-Byte
returns-in-Byte c = c.execute_in.ensures ∙ by_width _ _ _ _ _ _ (sym c.in-Byte.is ∙ c.width.ensures)

pub returns-in-Word : goal.returns-in-Word
returns-in-Word c = c.execute_in-in-Word.ensures ∙ by_width _ _ _ _ _ _ (sym c.in-Word.is ∙ c.width.ensures)
