use Rattle.std.proofs.Common.{refl}
use Rattle.dm_c.specs.Texts.{assembled, refused}
use Rattle.dm_c.proofs.texts.dm_c_assemble.Goals as goal

pub returns-in-Ok : goal.returns-in-Ok
returns-in-Ok c = assembled c.in-Ok.bytes.items c.in-Ok.ensures.assembled
    (rw c.as_slice.ensures.value at c.give_items.ensures) refl

pub returns-in-Err : goal.returns-in-Err
returns-in-Err c = refused c.in-Err.refusal c.in-Err.ensures.refused c.text_status_of.ensures c.wrong_line.ensures refl
    refl
