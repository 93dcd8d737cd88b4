use Rattle.dm_lines.proofs.TextRead.{texts_are_plain}
use Rattle.dm_lines.proofs.laws.texts_are_plain.Goals as goal

pub returns : goal.returns
returns c = texts_are_plain
