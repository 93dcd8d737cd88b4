use Rattle.dm_lines.proofs.TextRead.{texts_are_read}
use Rattle.dm_lines.proofs.laws.texts_are_read.Goals as goal

pub returns : goal.returns
returns c = texts_are_read
