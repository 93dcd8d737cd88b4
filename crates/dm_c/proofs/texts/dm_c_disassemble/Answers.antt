use Rattle.dm_c.specs.Texts.{listed}
use Rattle.dm_c.proofs.texts.dm_c_disassemble.Goals as goal

pub returns-in-Ok : goal.returns-in-Ok
returns-in-Ok c = listed c.in-Ok.text.items c.if-program-gt-MOST_PROGRAM_BYTES.false c.in-Ok.ensures
    (rw c.as_slice.ensures.value at c.give_items.ensures)
