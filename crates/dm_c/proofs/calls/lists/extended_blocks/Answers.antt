use Rattle.std.proofs.Common.{refl}
use Rattle.dm_c.specs.calls.Lists.{listed, refused}
use Rattle.dm_c.proofs.calls.lists.extended_blocks.Goals as goal

pub returns-in-Ok : goal.returns-in-Ok
returns-in-Ok c = (
  listed c.in-Ok.blocks.items c.in-Ok.ensures.ok (rw c.as_slice.ensures.value at c.give_items.ensures),
  refl,
)

pub returns-in-Err : goal.returns-in-Err
returns-in-Err c = (refused c.in-Err.refusal c.in-Err.ensures.err c.status_of.ensures refl refl, refl)
